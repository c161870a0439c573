use Rattle.std.proofs.Common.{◌≡◌}
use Rattle.ldm_label.proofs.ReadLaws.{toc_fits}
use Rattle.ldm_label.proofs.toc.Toc.checked.Goals as goal

pub returns-in-Some-2-clause-fits : goal.returns-in-Some-2-clause-fits
returns-in-Some-2-clause-fits c =
    let same : c.in-Some.toc ≡ c.in-Some-2.toc = cc in
    toc_fits c.in-Some-2.toc (let h = c.exceeds.ensures in let r = c.if-exceeds.false in cc)
