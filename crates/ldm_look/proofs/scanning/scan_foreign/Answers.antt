use Rattle.std.proofs.Common.{rules, ◌≡◌, ◌∙◌, true, sym, subst, Result, Err}
use Rattle.ldm_host.specs.Seen.{image}
use Rattle.ldm_label.specs.declared.Label.{Label}
use Rattle.ldm_label.specs.declared.LabelFault.{LabelFault}
use Rattle.ldm_look.specs.Scan.{IsScannedAs}
use Rattle.ldm_look.specs.declared.scanned.Scanned.TheVariants.{BadLabel}
use Rattle.ldm_look.proofs.ScanLaws.{foreign_is}
use Rattle.ldm_look.proofs.scanning.scan_foreign.Goals as goal

pub returns-in-Ok-clause-is : goal.returns-in-Ok-clause-is
returns-in-Ok-clause-is g c tells label =
    let bytes = image (g.H.Host.seen c.args.host.now).content c.args.disk in
    let lacks : c.lacks_ldm.result ≡ true = search rules in
    subst (λ (l : Result Label LabelFault). IsScannedAs l bytes (BadLabel c.args.fault c.foreign_of.result)) (sym label)
    (foreign_is c.args.fault bytes c.lacks_ldm.result c.sectors.result c.in-Ok.first c.foreign_of.result c.lacks_ldm.ensures lacks
    (c.sectors.ensures.size ∙ sym (g.met.H.Host.lengths tells c.args.host.now c.args.disk c.requires)) c.if-sectors-eq0.false (c.in-Ok.ensures.bytes tells) c.foreign_of.ensures)
