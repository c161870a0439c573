use Rattle.std.proofs.Common.{rules, ◌≡◌, sym, ◌∙◌, ap}
use Rattle.ldm_host.specs.Images.{items_of}
use Rattle.ldm_memory.specs.Left.{left_on}
use Rattle.ldm_memory.specs.Story.{fresh_state, run, disk_at}
use Rattle.ldm_memory.proofs.HeldLaws.{image_read}
use Rattle.ldm_memory.proofs.LeftLaws.{content_is}
use Rattle.ldm_memory.proofs.memory.MemoryHost.left_on.Goals as goal

pub returns-in-New-clause-is : goal.returns-in-New-clause-is
returns-in-New-clause-is c =
    let m = c.args.self.now in
    let d = disk_at (run (fresh_state (items_of m.first.items)) m.calls.items).disks c.args.disk in
    let here = image_read m.held.items c.args.disk c.index.result.now c.requires c.index.ensures in
    let is : c.deref.result.now ≡ left_on c.args.filling d = c.deref.ensures.value ∙ sym here ∙ content_is m c.args.disk ∙ sym (ap (λ f. left_on f d) c.in-New.is) in
    search rules
