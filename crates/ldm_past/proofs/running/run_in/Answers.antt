use Rattle.std.proofs.Common.{◌≡◌, ◌∙◌, ℕ, List, sym, ap, subst, arith, slice_index}
use Rattle.ldm_words.specs.declared.status.Status.TheVariants.{NoMemory}
use Rattle.ldm_words.specs.Jobs.{texts, job_of}
use Rattle.ldm_view.specs.declared.patch.Patch.{Patch}
use Rattle.ldm_view.specs.Patches.{shown}
use Rattle.ldm_view.specs.ViewSeen.{view_seen}
use Rattle.ldm_past.specs.PastAnswer.{IsPastReading}
use Rattle.ldm_past.proofs.RunLaws.{answers_as, completes_as, no_fault_as}
use Rattle.ldm_past.proofs.TalkLaws.{says_as, nothing_said}
use Rattle.ldm_past.proofs.running.run_in.Goals as goal

pub returns-in-Ok-clause-answers : goal.returns-in-Ok-clause-answers
returns-in-Ok-clause-answers g c tells =
    let view = c.in-Ok.view in
    let after = c.do_past-status.new.host in
    let seen = g.H.Host.seen in
    let old = view_seen g.H.Host.tells_disks view.patches.items view.wrote.items view.refused (seen view.host) in
    let new = view_seen g.H.Host.tells_disks after.patches.items after.wrote.items after.refused (seen after.host) in
    let reading = job_of (texts c.args.words.now) in
    let damages = c.args.damages.now in
    answers_as (seen c.args.under.host) (seen c.into_under.result.host) old new (IsPastReading reading damages old.content old.input)
    (IsPastReading reading damages (shown c.args.under.patches.items (seen c.args.under.host).content) (seen c.args.under.host).input) c.do_past-status.result
    (ap (λ (h : g.row.H.Denot). (seen h).said) c.in-Ok.ensures.host) (ap (λ (h : g.row.H.Denot). (seen h).said) (sym c.into_under.ensures.host))
    (λ x is. subst (λ (h : g.row.H.Denot). IsPastReading reading damages (shown c.args.under.patches.items (seen h).content) (seen h).input x) c.in-Ok.ensures.host
    (subst (λ (l : List Patch). IsPastReading reading damages (shown l (seen view.host).content) (seen view.host).input x) c.in-Ok.ensures.patches is))
    (c.do_past-status.ensures.answers tells)

pub returns-in-Ok-clause-complete : goal.returns-in-Ok-clause-complete
returns-in-Ok-clause-complete g c tells none some =
    let view = c.in-Ok.view in
    let after = c.do_past-status.new.host in
    let seen = g.H.Host.seen in
    let old = view_seen g.H.Host.tells_disks view.patches.items view.wrote.items view.refused (seen view.host) in
    let new = view_seen g.H.Host.tells_disks after.patches.items after.wrote.items after.refused (seen after.host) in
    let reading = job_of (texts c.args.words.now) in
    let damages = c.args.damages.now in
    let handed : after.wrote.items ≡ view.wrote.items = c.do_past-status.ensures.handed in
    let none_refused : after.refused ≡ 0 = c.into_under.ensures.unrefused (λ k. ap (λ (l : List ℕ). slice_index l k) handed ∙ c.in-Ok.ensures.fresh.1 k) in
    completes_as (seen c.args.under.host) (seen c.into_under.result.host) old new (IsPastReading reading damages old.content old.input)
    (IsPastReading reading damages (shown c.args.under.patches.items (seen c.args.under.host).content) (seen c.args.under.host).input) c.do_past-status.result
    (ap (λ (h : g.row.H.Denot). (seen h).said) c.in-Ok.ensures.host) (ap (λ (h : g.row.H.Denot). (seen h).said) (sym c.into_under.ensures.host))
    (λ x is. subst (λ (h : g.row.H.Denot). IsPastReading reading damages (shown c.args.under.patches.items (seen h).content) (seen h).input x) c.in-Ok.ensures.host
    (subst (λ (l : List Patch). IsPastReading reading damages (shown l (seen view.host).content) (seen view.host).input x) c.in-Ok.ensures.patches is))
    (c.do_past-status.ensures.complete tells
    (no_fault_as (seen c.args.under.host) (seen c.into_under.result.host) old new
    (omega (arith, c.in-Ok.ensures.fresh.0, ap (λ (h : g.row.H.Denot). (seen h).disk_faults) c.in-Ok.ensures.host))
    (omega (arith, none_refused, ap (λ (h : g.row.H.Denot). (seen h).disk_faults) c.into_under.ensures.host))
    (ap (λ (h : g.row.H.Denot). (seen h).talk_faults) c.in-Ok.ensures.host)
    (ap (λ (h : g.row.H.Denot). (seen h).talk_faults) (sym c.into_under.ensures.host))
    none)
    some)

pub returns-in-Ok-clause-whole : goal.returns-in-Ok-clause-whole
returns-in-Ok-clause-whole g c tells =
    let view = c.in-Ok.view in
    let after = c.do_past-status.new.host in
    let seen = g.H.Host.seen in
    let old = view_seen g.H.Host.tells_disks view.patches.items view.wrote.items view.refused (seen view.host) in
    let new = view_seen g.H.Host.tells_disks after.patches.items after.wrote.items after.refused (seen after.host) in
    says_as (seen c.args.under.host) (seen c.into_under.result.host) old new
    (ap (λ (h : g.row.H.Denot). (seen h).said) c.in-Ok.ensures.host) (ap (λ (h : g.row.H.Denot). (seen h).said) (sym c.into_under.ensures.host))
    (job_of (texts c.args.words.now)) c.do_past-status.result (c.do_past-status.ensures.whole tells)

pub returns-in-Err-clause-whole : goal.returns-in-Err-clause-whole
returns-in-Err-clause-whole g c tells =
    let seen = g.H.Host.seen in
    nothing_said (job_of (texts c.args.words.now)) (seen c.args.under.host) (seen c.in-Err.under.host) NoMemory (ap (λ (h : g.row.H.Denot). (seen h).said) c.in-Err.ensures.back_host)
