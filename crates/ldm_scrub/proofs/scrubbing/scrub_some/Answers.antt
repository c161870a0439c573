use Rattle.std.proofs.Common.{◌++◌, List, ℕ, arith, refl, ap, sym, ◌∙◌}
use Rattle.std.specs.List.{range_with_len}
use Rattle.ldm_host.proofs.Relations.{still_trans, rose_sooner}
use Rattle.ldm_scrub.specs.Lines.{bad_lines}
use Rattle.ldm_scrub.proofs.CompareLaws.{marked_front, marked_said, marked_bad}
use Rattle.ldm_scrub.proofs.scrubbing.scrub_some.Goals as goal

pub returns-in_default-clause-front : goal.returns-in_default-clause-front
returns-in_default-clause-front g c tells =
    let none = bad_lines c.args.format.now (g.H.Host.seen c.args.host.now).content c.args.found.now c.args.plan.now (range_with_len c.args.place 0) in
    (0, omega arith, (none, ap (λ (s : List ℕ). s ++ none) (sym c.mark_some.ensures.looks.quiet.said)))

pub returns-in_default-clause-input : goal.returns-in_default-clause-input
returns-in_default-clause-input g c = record { input = c.mark_some.ensures.looks.quiet.input; heard = c.mark_some.ensures.looks.quiet.heard }

pub returns-in-Ok-say_marked-clause-still : goal.returns-in-Ok-say_marked-clause-still
returns-in-Ok-say_marked-clause-still g c = still_trans _ _ _ c.in-Ok.ensures.looks.still c.in-Ok-say_marked.ensures.still

pub returns-in-Err-clause-still : goal.returns-in-Err-clause-still
returns-in-Err-clause-still g c = still_trans _ _ _ c.in-Ok.ensures.looks.still c.in-Err.ensures.still

pub returns-in-Ok-say_marked-clause-input : goal.returns-in-Ok-say_marked-clause-input
returns-in-Ok-say_marked-clause-input g c = record {
  input = c.in-Ok-say_marked.ensures.input.input ∙ c.in-Ok.ensures.looks.quiet.input;
  heard = c.in-Ok-say_marked.ensures.input.heard ∙ c.in-Ok.ensures.looks.quiet.heard;
}

pub returns-in-Err-clause-input : goal.returns-in-Err-clause-input
returns-in-Err-clause-input g c = record {
  input = c.in-Err.ensures.input.input ∙ c.in-Ok.ensures.looks.quiet.input;
  heard = c.in-Err.ensures.input.heard ∙ c.in-Ok.ensures.looks.quiet.heard;
}

pub returns-in-Err-clause-talk : goal.returns-in-Err-clause-talk
returns-in-Err-clause-talk g c is = rose_sooner _ _ _ c.in-Ok.ensures.looks.still.later.talk_faults (c.in-Err.ensures.cause refl)

pub returns-in-Ok-say_marked-clause-said : goal.returns-in-Ok-say_marked-clause-said
returns-in-Ok-say_marked-clause-said g c tells =
    marked_said c.args.format.now (g.H.Host.seen c.args.host.now).content c.args.found.now c.args.plan.now c.args.place c.in-Ok.count c.mark_some.new.marks _ _ _ (omega (arith, c.in-Ok.ensures.few))
    c.in-Ok.ensures.looks.quiet.said (c.in-Ok.ensures.marks tells) (c.in-Ok-say_marked.ensures.said (g.met.H.Host.tells_both tells) (g.H.Host.seen c.args.host.now).content c.args.found.now)

pub returns-in-Ok-say_marked-clause-count : goal.returns-in-Ok-say_marked-clause-count
returns-in-Ok-say_marked-clause-count g c tells =
    marked_bad (g.H.Host.seen c.args.host.now).content c.args.found.now c.args.plan.now c.args.place c.in-Ok.count c.in-Ok-say_marked.bad c.mark_some.new.marks (omega (arith, c.in-Ok.ensures.few))
    (c.in-Ok.ensures.marks tells) (c.in-Ok-say_marked.ensures.count (g.H.Host.seen c.args.host.now).content c.args.found.now)

pub returns-in-Ok-say_marked-clause-front : goal.returns-in-Ok-say_marked-clause-front
returns-in-Ok-say_marked-clause-front g c tells =
    marked_front c.args.format.now (g.H.Host.seen c.args.host.now).content c.args.found.now c.args.plan.now c.args.place c.args.all c.in-Ok.count c.mark_some.new.marks _ _ _ (omega (arith, c.in-Ok.ensures.few))
    c.in-Ok.ensures.looks.quiet.said c.in-Ok.ensures.fits (c.in-Ok.ensures.marks tells) (c.in-Ok-say_marked.ensures.front (g.H.Host.seen c.args.host.now).content c.args.found.now)

pub returns-in-Err-clause-front : goal.returns-in-Err-clause-front
returns-in-Err-clause-front g c tells =
    marked_front c.args.format.now (g.H.Host.seen c.args.host.now).content c.args.found.now c.args.plan.now c.args.place c.args.all c.in-Ok.count c.mark_some.new.marks _ _ _ (omega (arith, c.in-Ok.ensures.few))
    c.in-Ok.ensures.looks.quiet.said c.in-Ok.ensures.fits (c.in-Ok.ensures.marks tells) (c.in-Err.ensures.front (g.H.Host.seen c.args.host.now).content c.args.found.now)
