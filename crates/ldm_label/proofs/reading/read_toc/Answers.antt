use Rattle.ldm_host.specs.Seen.{image}
use Rattle.ldm_host.proofs.Relations.{looks_as}
use Rattle.ldm_label.specs.LabelOf.{tocs_in, first_toc}
use Rattle.ldm_label.proofs.ReadLaws.{tocs_err, toc_err, toc_ok, faulty, not_disk, passed, passed_disk}
use Rattle.ldm_label.proofs.reading.read_toc.Goals as goal

pub returns-in_err-common-clause-is : goal.returns-in_err-common-clause-is
returns-in_err-common-clause-is g c tells =
    let tocs = tocs_in c.args.start (image (g.H.Host.seen c.args.host.now).content c.args.disk) in
    passed c.from_residual.result c.in_err-common.field-0.0 _ _ c.from_residual.ensures.1 (c.in_err-common.ensures.is tells) (λ fault e. tocs_err tocs fault (first_toc tocs) e)

pub returns-in_err-checked-clause-is : goal.returns-in_err-checked-clause-is
returns-in_err-checked-clause-is g c tells =
    let tocs = tocs_in c.args.start (image (g.H.Host.seen c.args.host.now).content c.args.disk) in
    faulty c.from_residual-in_err-checked.result _ c.in_err-checked.field-0.0 c.from_residual-in_err-checked.ensures.1
    (toc_err tocs c.in_ok-common.common (first_toc tocs) c.in_err-checked.field-0.0 (c.in_ok-common.ensures.is tells) c.in_err-checked.ensures.is)

pub returns-clause-is : goal.returns-clause-is
returns-clause-is g c tells =
    let tocs = tocs_in c.args.start (image (g.H.Host.seen c.args.host.now).content c.args.disk) in
    toc_ok tocs c.in_ok-common.common c.in_ok-checked.field-0 (c.in_ok-common.ensures.is tells) c.in_ok-checked.ensures.is

pub returns-in_err-common-clause-looks : goal.returns-in_err-common-clause-looks
returns-in_err-common-clause-looks g c =
    looks_as c.in_err-common.ensures.looks
    (passed_disk c.from_residual.result c.in_err-common.field-0.0 c.from_residual.ensures.1)

pub returns-in_err-checked-clause-looks : goal.returns-in_err-checked-clause-looks
returns-in_err-checked-clause-looks g c =
    looks_as c.in_ok-common.ensures.looks
    (λ is. absurd (not_disk c.from_residual-in_err-checked.result c.in_err-checked.field-0.0 c.from_residual-in_err-checked.ensures.1 is))

pub returns-clause-fits : goal.returns-clause-fits
returns-clause-fits g c = c.in_ok-checked.ensures.fits

pub returns-clause-looks : goal.returns-clause-looks
returns-clause-looks g c = looks_as c.in_ok-common.ensures.looks (λ is. absurd (cc is))
