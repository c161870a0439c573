use Rattle.ldm_look.proofs.MapLaws.{more_disk, more_other}
use Rattle.ldm_look.proofs.mapped.mapped_disks.Goals as goal
use Rattle.ldm_look.proofs.mapped.mapped_disks.Goals.{in-Disk+in_ok-mapped_disk+in_ok-keep_disk, in_default}

pub loop-r-preserved : goal.loop-r-preserved
loop-r-preserved c = λ id. elim c.match-r.branch [
  | in-Disk+in_ok-mapped_disk+in_ok-keep_disk w ↦
      rw w.disks-is
      (more_disk c.args.labels.now id c.args.records.now c.loop-r.r-index c.r-item.result w.in-Disk.d w.in_ok-mapped_disk.field-0 _ _ c.loop-r-test.true c.r-item.is
      w.in-Disk.is w.in_ok-mapped_disk.ensures (w.in_ok-keep_disk.ensures id) (c.loop-r.invariant id))
  | in_default w ↦
      rw w.disks-is
      (more_other c.args.labels.now id c.args.records.now c.loop-r.r-index c.r-item.result _ c.loop-r-test.true c.r-item.is
      w.in_default.not-Disk (c.loop-r.invariant id))
]
