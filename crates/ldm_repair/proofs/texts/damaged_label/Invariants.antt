use Rattle.std.proofs.Common.{◌≡◌, drop}
use Rattle.ldm_repair.specs.Repairing.{damaged_from, damaged_label}
use Rattle.ldm_repair.proofs.texts.damaged_label.Given as goal

abbrev pub invariant-loop-image : goal.invariant-loop-image
invariant-loop-image l = damaged_from l.image (drop l.image l.damages) ≡ damaged_label l.damages
