use Rattle.std.proofs.Common.{rules, arith, ◌≡◌, ◌≤◌, ◌+◌, length, slice_range}
use Rattle.std.proofs.lemmas.List.{length-drop}
use Rattle.ldm_memory.proofs.HeldLaws.{left_is, heard_is}
use Rattle.ldm_memory.proofs.steps.hear_part.Goals as goal

pub returns-clause-taken : goal.returns-clause-taken
returns-clause-taken c whole =
    let script = c.args.script.now.items in
    let heard = c.args.heard.now in
    let n = c.min-count.result in
    let moved = c.copy_from_slice.new.self in
    let fits : heard + n ≤ length script = omega (arith, c.requires.fits, c.args.script.now.ok.0) in
    let is : moved ≡ slice_range script heard (heard + n) = search rules in (
      left_is script c.args.buf.now moved heard n is fits,
      heard_is script c.args.buf.now moved heard n is fits,
      λ none. omega (arith, none, length-drop heard script, c.requires, c.args.script.now.ok.0),
      search rules,
    )
