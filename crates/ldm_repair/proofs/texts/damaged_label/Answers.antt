use Rattle.std.proofs.Common.{sym, ◌∙◌, arith}
use Rattle.ldm_repair.proofs.TextLaws.{damaged_here, damaged_later}
use Rattle.ldm_repair.proofs.texts.damaged_label.Goals as goal

pub returns-in-Some : goal.returns-in-Some
returns-in-Some c = sym (damaged_here c.args.damages.now c.loop-image.image c.in-Some.fault (omega (arith, c.loop-image-test.true)) c.in-Some.is) ∙ c.loop-image.invariant

pub loop-image-preserved : goal.loop-image-preserved
loop-image-preserved c = damaged_later c.args.damages.now c.loop-image.image (omega (arith, c.loop-image-test.true)) c.in_default.is ∙ c.loop-image.invariant
