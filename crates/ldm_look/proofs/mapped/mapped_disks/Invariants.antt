use Rattle.std.proofs.Common.{◌≡◌, ℕ, take, nat_eq}
use Rattle.std.specs.HashMap as hash
use Rattle.ldm_look.specs.Map.{mapped_at}
use Rattle.ldm_look.proofs.mapped.mapped_disks.Given as goal

abbrev pub invariant-loop-r : goal.invariant-loop-r
invariant-loop-r l = (id : ℕ) → hash.get nat_eq l.disks id ≡ mapped_at l.labels (take l.r-index l.records) id
