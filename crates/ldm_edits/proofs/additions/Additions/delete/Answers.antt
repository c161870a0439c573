use Rattle.ldm_edits.proofs.PlaceLaws.{deleted_disks, deleted_step, shown_volume}
use Rattle.ldm_edits.specs.Additions.{with_added}
use Rattle.ldm_edits.proofs.additions.Additions.delete.Goals as goal

pub replace-requires-clause-step : goal.replace-requires-clause-step
replace-requires-clause-step c =
    let shown = shown_volume (rw c.in-Some.is at c.in_ok-own.ensures) c.in-Some-volume_named.ensures.is in
    deleted_step c.args.db.now c.args.self.now c.in-Some.own.records c.in-Some-volume_named.volume.now c.new.result
    c.new-2.result c.requires.are c.ids_fit.ensures shown.1 c.new.ensures.items c.new-2.ensures

pub replace-requires-clause-disks : goal.replace-requires-clause-disks
replace-requires-clause-disks c =
    deleted_disks (with_added c.args.db.now c.args.self.now) c.args.labels.now c.in-Some-volume_named.volume.now _
    (assumption) c.new.ensures.items
