use Rattle.ldm_edits.proofs.AdditionLaws.{same_group}
use Rattle.ldm_edits.proofs.PlaceLaws.{extended_disks, shown_volume}
use Rattle.ldm_edits.proofs.additions.Additions.extend.Goals as goal

pub replace-requires-clause-disks : goal.replace-requires-clause-disks
replace-requires-clause-disks c =
    let shown = shown_volume (rw c.in-Some.is at c.in_ok-own.ensures) c.in-Some-volume_named.ensures.is in
    extended_disks c.args.labels.now c.args.name.now c.args.pieces.now _ c.in_ok-step.step
    (same_group c.args.db.now c.in_ok-step.ensures.stays) (assumption) c.requires.limits shown.0
    c.in_ok-step.ensures.is.0
