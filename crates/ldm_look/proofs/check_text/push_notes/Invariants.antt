use Rattle.std.proofs.Common.{◌≡◌, ◌++◌, drop}
use Rattle.std.specs.Prelude.{flat_map}
use Rattle.std.specs.List.{enumerate_from}
use Rattle.ldm_look.specs.Check.{text_of_note}
use Rattle.ldm_look.proofs.check_text.push_notes.Given as goal

abbrev pub invariant-loop-image : goal.invariant-loop-image
invariant-loop-image l = l.text ++ flat_map text_of_note (enumerate_from l.image (drop l.image l.notes)) ≡ l.fn.text ++ flat_map text_of_note (enumerate_from 0 l.notes)
