use Rattle.std.proofs.Common.{◌≡◌, ◌++◌, take}
use Rattle.std.specs.Prelude.{flat_map}
use Rattle.ldm_words.specs.Names.{esc_byte}
use Rattle.ldm_text.proofs.naming.push_esc.Given as goal

abbrev pub invariant-loop-c : goal.invariant-loop-c
invariant-loop-c l = l.text ≡ l.fn.text ++ flat_map esc_byte (take l.c-index l.name)
