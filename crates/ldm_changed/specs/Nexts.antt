-- What a command writes to each disk.
use Rattle.std.specs.Prelude.{ℕ, ◌+◌, ◌*◌, List, length}
use Rattle.ldm_changed.specs.declared.nexts.Next.{Next}
use Rattle.ldm_changed.specs.declared.nexts.Next.TheVariants as nexts

-- the body that it writes
abbrev pub bytes_in : Next → List ℕ
bytes_in (nexts.Whole body) = body
bytes_in (nexts.Changed change) = change.body

-- how many bytes a disk is handed at most
abbrev pub most_in : Next → ℕ
most_in (nexts.Whole body) = length body + 1
most_in (nexts.Changed change) = 513 + 128 * length change.numbers
