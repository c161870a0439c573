use Rattle.std.proofs.Common.{◌≡◌}
use Rattle.ldm_host.specs.Images.{items_of}
use Rattle.ldm_memory.specs.Left.{overlaid}
use Rattle.ldm_host.specs.Seen.{image}
use Rattle.ldm_memory.specs.Story.{fresh_state, state_at, disk_at}
use Rattle.ldm_memory.proofs.memory.MemoryHost.filled.Given as goal

abbrev pub invariant-loop-place : goal.invariant-loop-place
invariant-loop-place l =
    l.image.items ≡ overlaid l.byte (disk_at (state_at (fresh_state (items_of l.self.first.items)) l.self.calls.items l.place).disks l.disk).pending (image (items_of l.self.held.items) l.disk)
