use Rattle.std.proofs.Common.{◌≡◌, ℕ, [], take, unwrap_or, nat_eq}
use Rattle.std.specs.HashMap as hash
use Rattle.ldm_look.specs.Volumes.{text_of_partitions}
use Rattle.ldm_look.proofs.lines.partition_lines.Given as goal

abbrev pub invariant-loop-r : goal.invariant-loop-r
invariant-loop-r l = (id : ℕ) → unwrap_or (hash.get nat_eq l.lines id) [] ≡ text_of_partitions (take l.r-index l.records) id
