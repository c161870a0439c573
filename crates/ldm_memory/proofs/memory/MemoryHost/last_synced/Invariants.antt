use Rattle.std.proofs.Common.{◌≡◌}
use Rattle.ldm_host.specs.Images.{items_of}
use Rattle.ldm_memory.specs.Story.{fresh_state, state_at, disk_at}
use Rattle.ldm_memory.proofs.memory.MemoryHost.last_synced.Given as goal

abbrev pub invariant-loop-call : goal.invariant-loop-call
invariant-loop-call l = l.image.items ≡ (disk_at (state_at (fresh_state (items_of l.self.first.items)) l.self.calls.items l.call-index).disks l.disk).content
