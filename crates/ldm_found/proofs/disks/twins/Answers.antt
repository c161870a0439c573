use Rattle.std.proofs.Common.{◌<◌, length, sym, ◌∙◌, arith}
use Rattle.std.proofs.lemmas.Option.{slice_get_within}
use Rattle.ldm_found.proofs.DiskLaws.{twins_next, twins_here}
use Rattle.ldm_found.proofs.disks.twins.Goals as goal

pub returns-in-Some : goal.returns-in-Some
returns-in-Some c = twins_here c.args.labels.now c.loop-i.i _ c.loop-i-test.true c.loop-i.invariant c.in-Some.j (sym c.image_with.ensures ∙ c.in-Some.is)

pub loop-i-preserved : goal.loop-i-preserved
loop-i-preserved c = twins_next c.args.labels.now c.loop-i.i _ c.loop-i-test.true c.loop-i.invariant (sym c.image_with.ensures ∙ c.in_default.is)

pub returns : goal.returns
returns c i j one =
    let within : i < length c.args.labels.now = slice_get_within c.args.labels.now i one.first one.first_is in
    c.loop-i.invariant i j (omega (arith, c.loop-i-test.false, within)) one
