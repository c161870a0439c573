use Rattle.std.proofs.Common.{◌≡◌, ◌++◌, take}
use Rattle.ldm_text.specs.Parts.{text_of_parts}
use Rattle.ldm_text.proofs.parts.push_parts.Given as goal

abbrev pub invariant-loop-part : goal.invariant-loop-part
invariant-loop-part l = l.text ≡ l.fn.text ++ text_of_parts (take l.part-index l.parts)
