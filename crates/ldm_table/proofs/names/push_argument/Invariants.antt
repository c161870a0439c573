use Rattle.std.proofs.Common.{◌≡◌, ◌++◌, take}
use Rattle.std.specs.Prelude.{flat_map}
use Rattle.ldm_table.specs.Names.{argument_byte}
use Rattle.ldm_table.proofs.names.push_argument.Given as goal

abbrev pub invariant-loop-c : goal.invariant-loop-c
invariant-loop-c l = l.text ≡ l.fn.text ++ flat_map argument_byte (take l.c-index l.word)
