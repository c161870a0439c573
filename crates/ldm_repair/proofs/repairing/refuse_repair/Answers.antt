use Rattle.ldm_look.specs.Opening.{text_of_open_fault}
use Rattle.ldm_look.specs.Said.{refused}
use Rattle.ldm_repair.proofs.RepairLaws.{repairs_refused}
use Rattle.ldm_repair.proofs.repairing.refuse_repair.Goals as goal

pub returns-clause-repairs : goal.returns-clause-repairs
returns-clause-repairs g c =
    let seen = g.H.Host.seen in
    repairs_refused g.H.Host.tells_talk g.H.Host.tells_disks (seen c.args.host) (seen c.refuse-status.new.host) (refused (text_of_open_fault c.args.fault.now)) c.refuse-status.result g.met.H.Host.tells_both
    c.requires.refused c.requires.none c.refuse-status.ensures
