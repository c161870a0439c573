use Rattle.ldm_edits.proofs.CrossLaws.{other_disk, own_part}
use Rattle.ldm_edits.proofs.deciding.on_another.Goals as goal

pub returns-then-p-disk : goal.returns-then-p-disk
returns-then-p-disk c = other_disk c.args.r.now c.in-Partition.p _ c.args.own c.args.disk c.in-Partition.is c.if-p-disk.true

pub returns-then-p-own : goal.returns-then-p-own
returns-then-p-own c = own_part c.args.r.now c.in-Partition.p _ c.args.own c.args.disk c.in-Partition.is c.if-p-own.true
