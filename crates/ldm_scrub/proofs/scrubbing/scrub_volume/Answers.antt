use Rattle.std.proofs.Common.{arith, ◌++◌, ℕ, List, length, refl, ap, sym, ◌∙◌, append_assoc}
use Rattle.ldm_host.specs.Moves.{Begins}
use Rattle.ldm_host.proofs.Relations.{still_trans, rose_sooner}
use Rattle.ldm_dump.proofs.ByteLaws.{begins_of, begins_all}
use Rattle.ldm_scrub.specs.Compare.{places_of}
use Rattle.ldm_scrub.specs.Lines.{bad_lines, bad_of, counts_line}
use Rattle.ldm_scrub.proofs.CompareLaws.{begins_more, end_text}
use Rattle.ldm_scrub.proofs.scrubbing.scrub_volume.Goals as goal

pub returns-in_err-bad-clause-front : goal.returns-in_err-bad-clause-front
returns-in_err-bad-clause-front g c tells =
    let old = g.H.Host.seen c.args.host.now in
    let part = c.in_err-bad.ensures.front tells in
    let lines = bad_lines c.args.format.now old.content c.args.found.now c.args.plan.now (places_of c.args.plan.now) in
    let end = counts_line c.args.format.now c.args.front.now (length (places_of c.args.plan.now)) (bad_of old.content c.args.found.now c.args.plan.now (places_of c.args.plan.now)) in
    let more = begins_more _ (old.said ++ lines) end part in
    (more.0, sym (append_assoc old.said lines end) ∙ more.1)

pub returns-in-Ok-clause-still : goal.returns-in-Ok-clause-still
returns-in-Ok-clause-still g c = still_trans _ _ _ c.in_ok-bad.ensures.still c.in-Ok.ensures.still

pub returns-in-Err-clause-still : goal.returns-in-Err-clause-still
returns-in-Err-clause-still g c = still_trans _ _ _ c.in_ok-bad.ensures.still c.in-Err.ensures.still

pub returns-in-Ok-clause-said : goal.returns-in-Ok-clause-said
returns-in-Ok-clause-said g c tells = grind (arith, end_text, append_assoc)

pub returns-in-Ok-clause-front : goal.returns-in-Ok-clause-front
returns-in-Ok-clause-front g c tells = begins_all _ _ (returns-in-Ok-clause-said g c tells)

pub returns-in-Err-clause-front : goal.returns-in-Err-clause-front
returns-in-Err-clause-front g c tells =
    let old = g.H.Host.seen c.args.host.now in
    let mid = (g.H.Host.seen c.scrub_places.new.host).said in
    let lines = bad_lines c.args.format.now old.content c.args.found.now c.args.plan.now (places_of c.args.plan.now) in
    let end = counts_line c.args.format.now c.args.front.now (length (places_of c.args.plan.now)) (bad_of old.content c.args.found.now c.args.plan.now (places_of c.args.plan.now)) in
    let text = c.push_end-end.ensures.is
    ∙ end_text c.args.format.now old.content c.args.found.now c.args.plan.now c.args.front.now c.place_count-all.result c.in_ok-bad.bad c.place_count-all.ensures (c.in_ok-bad.ensures.count tells) in
    let part : Begins (g.H.Host.seen c.say.new.self).said (mid ++ end) = begins_of _ _ _ _ text c.in-Err.ensures.front in
    (part.0, sym (append_assoc old.said lines end) ∙ (ap (λ (s : List ℕ). s ++ end) (sym (c.in_ok-bad.ensures.said tells)) ∙ part.1))

pub returns-in-Ok-clause-input : goal.returns-in-Ok-clause-input
returns-in-Ok-clause-input g c = record {
  input = c.in-Ok.ensures.input ∙ c.in_ok-bad.ensures.input.input;
  heard = c.in-Ok.ensures.heard ∙ c.in_ok-bad.ensures.input.heard;
}

pub returns-in-Err-clause-input : goal.returns-in-Err-clause-input
returns-in-Err-clause-input g c = record {
  input = c.in-Err.ensures.input ∙ c.in_ok-bad.ensures.input.input;
  heard = c.in-Err.ensures.heard ∙ c.in_ok-bad.ensures.input.heard;
}

pub returns-in-Err-clause-talk : goal.returns-in-Err-clause-talk
returns-in-Err-clause-talk g c is = rose_sooner _ _ _ c.in_ok-bad.ensures.still.later.talk_faults (c.in-Err.ensures.cause refl)
