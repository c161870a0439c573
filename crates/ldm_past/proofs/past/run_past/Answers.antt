use Rattle.std.proofs.Common.{ℕ, List, refl, sym, subst}
use Rattle.ldm_host.specs.Moves.{Still}
use Rattle.ldm_host.proofs.Relations.{rose_sooner}
use Rattle.ldm_words.specs.Jobs.{texts, job_of}
use Rattle.ldm_look.specs.Runs.{Answers, Causes, Completes, NoFault}
use Rattle.ldm_view.specs.Patches.{shown}
use Rattle.ldm_damage.specs.declared.damage.Damage.{Damage}
use Rattle.ldm_damage.specs.Views.{AreDamaged}
use Rattle.ldm_damage.proofs.LookLaws.{same_sizes, same_content, no_less, no_less_talk, both_still, ok_at}
use Rattle.ldm_past.specs.PastAnswer.{IsPastReading, IsPastAnswer}
use Rattle.ldm_past.specs.PastTalk.{SaysWholePast}
use Rattle.ldm_past.proofs.RunLaws.{answers_as, completes_as, has_images}
use Rattle.ldm_past.proofs.PastLaws.{one_answer_past}
use Rattle.ldm_past.proofs.TalkLaws.{says_as}
use Rattle.ldm_past.proofs.past.run_past.Goals as goal

pub run_shown-under-requires-clause-images : goal.run_shown-under-requires-clause-images
run_shown-under-requires-clause-images g c =
    let a = g.H.Host.seen c.args.host in
    let u = g.H.Host.seen c.find_damage-under.result.0.host in
    has_images (job_of (texts c.args.words.now)) a u (same_sizes a u c.find_damage-under.ensures.looked.still) c.requires.images

pub returns-clause-answers : goal.returns-clause-answers
returns-clause-answers g c tells =
    let seen = g.H.Host.seen in
    let a = seen c.args.host in
    let under = c.find_damage-under.result.0 in
    let u = seen under.host in
    let v = seen c.run_shown-under.result.0.host in
    let words = texts c.args.words.now in
    let damages = c.deref.result.now in
    let patches = under.patches.items in
    let looked = c.find_damage-under.ensures.looked in
    subst (λ (h : g.row.H.Denot). Answers a (seen h) (IsPastAnswer words a.content a.input) c.run_shown-under.result.1) (sym c.host_of-2.ensures)
    (answers_as a v u v (IsPastReading (job_of words) damages (shown patches u.content) u.input) (IsPastAnswer words a.content a.input) c.run_shown-under.result.1 looked.quiet.said refl
    (λ x is. record {
      damages = damages;
      views = shown patches a.content;
      are = subst (λ (d : List Damage). AreDamaged a.content d (shown patches a.content)) (sym c.deref.ensures.value)
          (ok_at c.find_damage-under.result.1 (λ p. AreDamaged a.content p.items (shown patches a.content)) c.in-Ok.damages c.in-Ok.is (c.find_damage-under.ensures.is tells));
      is = subst (λ (l : List (List ℕ)). IsPastReading (job_of words) damages (shown patches l) a.input x) (same_content a u looked.still)
          (subst (λ (i : List ℕ). IsPastReading (job_of words) damages (shown patches u.content) i x) looked.quiet.input is);
    })
    (c.run_shown-under.ensures.answers tells))

pub returns-clause-damaged : goal.returns-clause-damaged
returns-clause-damaged g c tells =
    let a = g.H.Host.seen c.args.host in
    let patches = c.find_damage-under.result.0.patches.items in
    (shown patches a.content, ok_at c.find_damage-under.result.1 (λ p. AreDamaged a.content p.items (shown patches a.content)) c.in-Ok.damages c.in-Ok.is (c.find_damage-under.ensures.is tells))

pub returns-in-Err-clause-one : goal.returns-in-Err-clause-one
returns-in-Err-clause-one g c =
    let a = g.H.Host.seen c.args.host in
    one_answer_past (texts c.args.words.now) a.content a.input

pub returns-clause-one : goal.returns-clause-one
returns-clause-one g c =
    let a = g.H.Host.seen c.args.host in
    one_answer_past (texts c.args.words.now) a.content a.input

pub returns-clause-causes : goal.returns-clause-causes
returns-clause-causes g c =
    let seen = g.H.Host.seen in
    let a = seen c.args.host in
    let u = seen c.find_damage-under.result.0.host in
    let v = seen c.run_shown-under.result.0.host in
    let still = c.find_damage-under.ensures.looked.still in
    let first : Causes a v c.run_shown-under.result.1 = record {
      disk = λ is. rose_sooner a.disk_faults u.disk_faults v.disk_faults (no_less a u still) (c.run_shown-under.ensures.causes.disk is);
      talk = λ is. rose_sooner a.talk_faults u.talk_faults v.talk_faults (no_less_talk a u still) (c.run_shown-under.ensures.causes.talk is);
    } in
    subst (λ (h : g.row.H.Denot). Causes a (seen h) c.run_shown-under.result.1) (sym c.host_of-2.ensures) first

pub returns-clause-complete : goal.returns-clause-complete
returns-clause-complete g c tells none some =
    let seen = g.H.Host.seen in
    let a = seen c.args.host in
    let under = c.find_damage-under.result.0 in
    let u = seen under.host in
    let v = seen c.run_shown-under.result.0.host in
    let words = texts c.args.words.now in
    let damages = c.deref.result.now in
    let patches = under.patches.items in
    let looked = c.find_damage-under.ensures.looked in
    let here : NoFault a v = subst (λ (h : g.row.H.Denot). NoFault a (seen h)) c.host_of-2.ensures none in
    let no_fault : NoFault u v = record {
      disk = λ rose. here.disk (rose_sooner a.disk_faults u.disk_faults v.disk_faults (no_less a u looked.still) rose);
      talk = λ rose. here.talk (rose_sooner a.talk_faults u.talk_faults v.talk_faults (no_less_talk a u looked.still) rose);
    } in
    subst (λ (h : g.row.H.Denot). Completes a (seen h) (IsPastAnswer words a.content a.input) c.run_shown-under.result.1) (sym c.host_of-2.ensures)
    (completes_as a v u v (IsPastReading (job_of words) damages (shown patches u.content) u.input) (IsPastAnswer words a.content a.input) c.run_shown-under.result.1 looked.quiet.said refl
    (λ x is. record {
      damages = damages;
      views = shown patches a.content;
      are = subst (λ (d : List Damage). AreDamaged a.content d (shown patches a.content)) (sym c.deref.ensures.value)
          (ok_at c.find_damage-under.result.1 (λ p. AreDamaged a.content p.items (shown patches a.content)) c.in-Ok.damages c.in-Ok.is (c.find_damage-under.ensures.is tells));
      is = subst (λ (l : List (List ℕ)). IsPastReading (job_of words) damages (shown patches l) a.input x) (same_content a u looked.still)
          (subst (λ (i : List ℕ). IsPastReading (job_of words) damages (shown patches u.content) i x) looked.quiet.input is);
    })
    (c.run_shown-under.ensures.complete tells no_fault some))

pub returns-clause-whole : goal.returns-clause-whole
returns-clause-whole g c tells =
    let seen = g.H.Host.seen in
    let a = seen c.args.host in
    let u = seen c.find_damage-under.result.0.host in
    let v = seen c.run_shown-under.result.0.host in
    let reading = job_of (texts c.args.words.now) in
    subst (λ (h : g.row.H.Denot). SaysWholePast reading a (seen h) c.run_shown-under.result.1) (sym c.host_of-2.ensures)
    (says_as a v u v c.find_damage-under.ensures.looked.quiet.said refl reading c.run_shown-under.result.1 (c.run_shown-under.ensures.whole tells))

pub returns-clause-still : goal.returns-clause-still
returns-clause-still g c =
    let seen = g.H.Host.seen in
    subst (λ (h : g.row.H.Denot). ∥ Still (seen c.args.host) (seen h) ∥₁) (sym c.host_of-2.ensures)
    (both_still (seen c.args.host) (seen c.find_damage-under.result.0.host) (seen c.run_shown-under.result.0.host) c.find_damage-under.ensures.looked.still c.run_shown-under.ensures.still)
