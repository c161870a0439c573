use Rattle.ldm_host.specs.Seen.{image}
use Rattle.ldm_copy.specs.Copy.{config_area}
use Rattle.ldm_copy.proofs.OneCopy.{one_copy}
use Rattle.ldm_copy.proofs.ReadLaws.{answers_only}
use Rattle.ldm_copy.proofs.reading.read_copy.Goals as goal

pub returns-clause-only : goal.returns-clause-only
returns-clause-only g c tells =
    let disk = image (g.H.Host.seen c.args.host.now).content c.args.disk in
    answers_only (config_area c.args.label.now disk) c.args.label.now.area_sectors c.copy_at.result (c.copy_at.ensures.found tells)

pub returns-clause-one : goal.returns-clause-one
returns-clause-one g c a b = one_copy (config_area c.args.label.now (image (g.H.Host.seen c.args.host.now).content c.args.disk)) c.args.label.now.area_sectors a b
