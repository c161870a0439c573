use Rattle.std.proofs.Common.{◌≡◌, ◌++◌, take}
use Rattle.std.specs.Prelude.{flat_map}
use Rattle.ldm_table.specs.Names.{mangled_byte}
use Rattle.ldm_table.proofs.names.push_mangled.Given as goal

abbrev pub invariant-loop-c : goal.invariant-loop-c
invariant-loop-c l = l.text ≡ l.fn.text ++ flat_map mangled_byte (take l.c-index l.name)
