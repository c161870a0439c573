use Rattle.std.proofs.Common.{◌≡◌, ◌+◌, ◌≤◌, drop}
use Rattle.ldm_repair.specs.Repairing.{damaged_copies}
use Rattle.ldm_repair.proofs.texts.damaged_copies.Given as goal

abbrev pub invariant-loop-damage : goal.invariant-loop-damage
invariant-loop-damage l = (l.copies + damaged_copies (drop l.damage-index l.damages) ≡ damaged_copies l.damages) × (l.copies ≤ l.damage-index)
