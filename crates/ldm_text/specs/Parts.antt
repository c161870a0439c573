-- The parts of a text, each as it is written.
use Rattle.std.specs.Prelude.{ℕ, List, flat_map, decimal}
use Rattle.ldm_bytes.specs.Guid.{own_guid}
use Rattle.ldm_words.specs.Names.{esc}
use Rattle.ldm_text.specs.declared.parts.Part.{Part}
use Rattle.ldm_text.specs.declared.parts.Part.TheVariants as parts

abbrev pub text_of_part : Part → List ℕ
text_of_part (parts.Word word) = word.now
text_of_part (parts.Number number) = decimal number
text_of_part (parts.Name name) = esc name.now
text_of_part (parts.Guid guid) = own_guid guid

-- one after the other
abbrev pub text_of_parts : List Part → List ℕ
text_of_parts parts = flat_map text_of_part parts
