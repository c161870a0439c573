use Rattle.std.proofs.Common.{◌≡◌, ◌<◌, take}
use Rattle.ldm_host.specs.Images.{items_of}
use Rattle.ldm_memory.specs.Left.{left_of}
use Rattle.ldm_memory.specs.Memory.{story_of}
use Rattle.ldm_memory.proofs.LeftLaws.{IsSmall}
use Rattle.ldm_memory.proofs.memory.MemoryHost.left.Given as goal

abbrev pub invariant-loop-disk : goal.invariant-loop-disk
invariant-loop-disk l = (items_of l.images.items ≡ take l.disk (left_of l.filling (story_of l.self))) × (0 < l.disk → IsSmall l.filling)
