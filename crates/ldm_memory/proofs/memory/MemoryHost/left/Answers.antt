use Rattle.std.proofs.Common.{◌≡◌, ◌<◌, ◌≤◌, length, map, ◌∙◌, ap, arith}
use Rattle.std.proofs.lemmas.List.{length-map, take_all}
use Rattle.ldm_host.specs.Images.{items_of}
use Rattle.ldm_memory.specs.Left.{left_of, left_on}
use Rattle.ldm_memory.specs.Memory.{story_of}
use Rattle.ldm_memory.specs.Story.{disk_at, fresh_state, run}
use Rattle.ldm_memory.proofs.LeftLaws.{held_count, left_leaves, left_push}
use Rattle.ldm_memory.proofs.memory.MemoryHost.left.Goals as goal

pub loop-disk-preserved : goal.loop-disk-preserved
loop-disk-preserved c =
    let m = c.args.self.now in
    let disks = (run (fresh_state (items_of m.first.items)) m.calls.items).disks in
    let pushed = c.in_ok-push_made.ensures in
    let made : pushed.0.items ≡ left_on c.args.filling (disk_at disks c.loop-disk.disk) = rw pushed.1 at c.left_on.ensures.is in
    let lt : c.loop-disk.disk < length disks = omega (arith, c.loop-disk-test.true, c.len-disk-end.ensures, m.held.ok.0, held_count m) in (
      ap items_of pushed.2 ∙ left_push c.args.filling disks c.loop-disk.disk c.loop-disk.images.items pushed.0 lt c.loop-disk.invariant.0 made,
      λ some. c.left_on.ensures.small,
    )

pub returns-clause-leaves : goal.returns-clause-leaves
returns-clause-leaves c =
    let m = c.args.self.now in
    let disks = (run (fresh_state (items_of m.first.items)) m.calls.items).disks in
    let many : length (map (left_on c.args.filling) disks) ≡ length disks = length-map disks (left_on c.args.filling) in
    let end : length m.held.items ≤ c.loop-disk.disk = omega (arith, c.loop-disk-test.false, c.len-disk-end.ensures, m.held.ok.0) in
    left_leaves m c.args.filling (items_of c.loop-disk.images.items) (λ some. c.loop-disk.invariant.1 (omega (arith, some, end)))
    (c.loop-disk.invariant.0 ∙ take_all c.loop-disk.disk (left_of c.args.filling (story_of m)) (omega (arith, end, many, held_count m)))
