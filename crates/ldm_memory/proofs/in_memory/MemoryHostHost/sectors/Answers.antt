use Rattle.std.proofs.Common.{◌/◌, ℕ, length, sym, ◌∙◌, ap}
use Rattle.ldm_host.specs.Images.{items_of}
use Rattle.ldm_memory.specs.Story.{fresh_state, run}
use Rattle.ldm_memory.proofs.HeldLaws.{image_read, size_is, there}
use Rattle.ldm_memory.proofs.in_memory.MemoryHostHost.sectors.Goals as goal

pub returns-clause-size : goal.returns-clause-size
returns-clause-size c =
    let m = c.args.self.now in
    let disks = (run (fresh_state (items_of m.first.items)) m.calls.items).disks in
    let here = image_read m.held.items c.args.disk c.index.result.now (there m.held.items disks m.kept.content c.args.disk c.requires) c.index.ensures in
    ap (λ (n : ℕ). n / 512) (c.len.ensures ∙ c.index.result.now.ok.0 ∙ sym (ap length here)) ∙ size_is m.held.items disks m.kept.content c.args.disk c.requires
