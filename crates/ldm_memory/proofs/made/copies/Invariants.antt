use Rattle.std.proofs.Common.{◌≡◌, ℕ, take}
use Rattle.ldm_bytes.specs.Numbers.{IsBytes}
use Rattle.ldm_host.specs.Images.{items_of}
use Rattle.ldm_host.specs.Seen.{image}
use Rattle.ldm_memory.proofs.made.copies.Given as goal

abbrev pub invariant-loop-image : goal.invariant-loop-image
invariant-loop-image l = (items_of l.all.items ≡ items_of (take l.image-index l.images)) × ((disk : ℕ) → IsBytes (image (items_of l.all.items) disk))
