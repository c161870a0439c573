use Rattle.ldm_label.proofs.ReadLaws.{handed_on}
use Rattle.ldm_host.specs.Seen.{image}
use Rattle.ldm_copy.proofs.ReadLaws.{all_joined, fault_joined}
use Rattle.ldm_copy.proofs.reading.join_sectors.Goals as goal

pub returns-in_err-finish-clause-fault : goal.returns-in_err-finish-clause-fault
returns-in_err-finish-clause-fault g c tells =
    rw (handed_on c.from_residual-in_err-finish.result _ c.from_residual-in_err-finish.ensures.1)
    (fault_joined g.H.Host.tells_disks (image (g.H.Host.seen c.args.host.now).content c.args.disk) c.args.from c.args.sectors c.feed_sectors.new.joiner c.in_err-finish.field-0.0
    c.in_ok-feed_sectors.ensures.read c.in_err-finish.ensures.answers tells)

pub returns-clause-read : goal.returns-clause-read
returns-clause-read g c =
    all_joined g.H.Host.tells_disks (image (g.H.Host.seen c.args.host.now).content c.args.disk) c.args.from c.args.sectors c.feed_sectors.new.joiner c.in_ok-finish.field-0
    c.in_ok-feed_sectors.ensures.read c.in_ok-finish.ensures.answers
