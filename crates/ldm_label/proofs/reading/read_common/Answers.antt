use Rattle.std.proofs.Common.{◌≡◌, ◌+◌, get_or, refl}
use Rattle.ldm_host.specs.Seen.{image}
use Rattle.ldm_host.proofs.Relations.{looks_then, looks_as}
use Rattle.ldm_label.specs.Fields.{sector}
use Rattle.ldm_label.proofs.ReadLaws.{places, common_next, common_err, common_is, failed, faulty, not_disk}
use Rattle.ldm_label.proofs.reading.read_common.Goals as goal

pub returns-in_err-common-clause-is : goal.returns-in_err-common-clause-is
returns-in_err-common-clause-is g c tells =
    let disk = image (g.H.Host.seen c.args.host.now).content c.args.disk in
    let there : c.in_ok-sector.sector ≡ sector disk (c.args.start + get_or places c.loop-at.at-index 0) = rw c.loop-at.invariant.looks.still.content at (c.in_ok-sector.ensures.bytes tells) in
    faulty c.from_residual-in_err-common.result _ c.in_err-common.field-0.0 c.from_residual-in_err-common.ensures.1
    (common_err disk c.args.start c.loop-at.common c.loop-at.at-index (c.loop-at.invariant.common tells) c.parse.result c.in_err-common.field-0.0 c.in_ok-sector.sector c.loop-at-test.true there c.parse.ensures c.in_err-common.ensures)

pub returns-in_err-common-clause-looks : goal.returns-in_err-common-clause-looks
returns-in_err-common-clause-looks g c =
    looks_then c.loop-at.invariant.looks c.in_ok-sector.ensures.looks
    (λ is. absurd (not_disk c.from_residual-in_err-common.result c.in_err-common.field-0.0 c.from_residual-in_err-common.ensures.1 is))

pub loop-at-preserved : goal.loop-at-preserved
loop-at-preserved g c = record {
  looks = looks_then c.loop-at.invariant.looks c.in_ok-sector.ensures.looks (λ is. absurd is);
  common = λ tells.
      let disk = image (g.H.Host.seen c.args.host.now).content c.args.disk in
      let there : c.in_ok-sector.sector ≡ sector disk (c.args.start + get_or places c.loop-at.at-index 0) = rw c.loop-at.invariant.looks.still.content at (c.in_ok-sector.ensures.bytes tells) in
      common_next disk c.args.start c.loop-at.common c.loop-at.at-index (c.loop-at.invariant.common tells) c.parse.result c.in_ok-common.common c.in_ok-sector.sector c.loop-at-test.true there c.parse.ensures c.in_ok-common.ensures;
}

pub returns-clause-is : goal.returns-clause-is
returns-clause-is g c tells =
    let disk = image (g.H.Host.seen c.args.host.now).content c.args.disk in
    common_is disk c.args.start c.loop-at.common c.loop-at.at-index (c.loop-at.invariant.common tells) c.loop-at-test.false

pub returns-in_err-sector : goal.returns-in_err-sector
returns-in_err-sector g c = record {
  is = λ tells. failed c.from_residual.result _ c.from_residual.ensures.1;
  looks = looks_then c.loop-at.invariant.looks c.in_err-sector.ensures.looks (λ is. refl);
}

pub returns-clause-looks : goal.returns-clause-looks
returns-clause-looks g c = looks_as c.loop-at.invariant.looks (λ is. absurd (cc is))
