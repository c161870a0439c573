use Rattle.std.proofs.Common.{◌≡◌, ◌++◌, drop}
use Rattle.std.specs.Prelude.{flat_map}
use Rattle.std.specs.List.{enumerate_from}
use Rattle.ldm_past.specs.PastAnswer.{text_of_damage, text_of_damages}
use Rattle.ldm_past.proofs.texts.push_damages.Given as goal

abbrev pub invariant-loop-image : goal.invariant-loop-image
invariant-loop-image l = l.text ++ flat_map text_of_damage (enumerate_from l.image (drop l.image l.damages)) ≡ l.fn.text ++ text_of_damages l.damages
