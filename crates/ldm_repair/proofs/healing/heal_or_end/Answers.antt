use Rattle.std.proofs.Common.{rules}
use Rattle.ldm_words.specs.declared.status.Status.TheVariants.{DiskFault, NoMemory}
use Rattle.ldm_repair.proofs.PastLaws.{good_is_past, one_group_past}
use Rattle.ldm_repair.proofs.RepairLaws.{disk_failing, memory_failing}
use Rattle.ldm_repair.proofs.SaidLaws.{repair_stopped, repair_faulty}
use Rattle.ldm_repair.proofs.healing.heal_or_end.Goals as goal

pub returns-in-Err-Disk-clause-ended : goal.returns-in-Err-Disk-clause-ended
returns-in-Err-Disk-clause-ended g c =
    repair_stopped good_is_past one_group_past g.H.Host.tells_disks (g.H.Host.seen c.args.host.now) (g.H.Host.seen c.heal_closed.new.host) c.args.found.now c.args.damages.now c.requires.editable c.requires.labels c.requires.is
    c.heal_closed.result DiskFault c.heal_closed.ensures
    (disk_failing _ _ (c.heal_closed.ensures.works.cause (search rules)))
    (λ is. cc)

pub returns-in-Err-NoMemory-clause-ended : goal.returns-in-Err-NoMemory-clause-ended
returns-in-Err-NoMemory-clause-ended g c =
    repair_stopped good_is_past one_group_past g.H.Host.tells_disks (g.H.Host.seen c.args.host.now) (g.H.Host.seen c.heal_closed.new.host) c.args.found.now c.args.damages.now c.requires.editable c.requires.labels c.requires.is
    c.heal_closed.result NoMemory c.heal_closed.ensures
    (memory_failing _ _)
    (λ is. cc)

pub returns-in-Err-Fault-clause-ended : goal.returns-in-Err-Fault-clause-ended
returns-in-Err-Fault-clause-ended g c = repair_faulty c.heal_closed.result c.in-Err-Fault.fault (search rules) c.heal_closed.ensures c.refuse.ensures g.met.H.Host.tells_both
