use Rattle.std.proofs.Common.{◌≡◌, ◌∙◌, Ok, ap, sym}
use Rattle.ldm_host.specs.Seen.{image}
use Rattle.ldm_host.proofs.Relations.{looks_then}
use Rattle.ldm_label.specs.declared.Style.{Style}
use Rattle.ldm_label.specs.Fields.{sector}
use Rattle.ldm_label.proofs.ReadLaws.{faulty, passed, passed_disk}
use Rattle.ldm_label.proofs.GptLaws.{styled_err, mbr_is, gpt_fault, gpt_is}
use Rattle.ldm_label.proofs.reading_table.read_table.Goals as goal

pub returns-in_err-check_mbr-clause-is : goal.returns-in_err-check_mbr-clause-is
returns-in_err-check_mbr-clause-is g c tells =
    let disk = image (g.H.Host.seen c.args.host.now).content c.args.disk in
    let there : c.in_ok-mbr.mbr ≡ sector disk 0 = c.in_ok-mbr.ensures.bytes tells in
    let found = rw there at c.in_err-check_mbr.ensures in
    faulty c.from_residual-in_err-check_mbr.result _ c.in_err-check_mbr.field-0.0 c.from_residual-in_err-check_mbr.ensures.1 (styled_err disk c.in_err-check_mbr.field-0.0 (sym found))

pub returns-in-Mbr-clause-is : goal.returns-in-Mbr-clause-is
returns-in-Mbr-clause-is g c tells =
    let disk = image (g.H.Host.seen c.args.host.now).content c.args.disk in
    let there : c.in_ok-mbr.mbr ≡ sector disk 0 = c.in_ok-mbr.ensures.bytes tells in
    let found = rw there at c.in_ok-check_mbr.ensures in
    mbr_is disk (sym found ∙ ap (λ (style : Style). Ok style) c.in-Mbr.is)

pub returns-in_err-read_gpt-in-Gpt-clause-is : goal.returns-in_err-read_gpt-in-Gpt-clause-is
returns-in_err-read_gpt-in-Gpt-clause-is g c tells =
    let disk = image (g.H.Host.seen c.args.host.now).content c.args.disk in
    let there : c.in_ok-mbr.mbr ≡ sector disk 0 = c.in_ok-mbr.ensures.bytes tells in
    let found = rw there at c.in_ok-check_mbr.ensures in
    let gpt = rw c.in_ok-mbr.ensures.looks.still.content at (c.in_err-read_gpt-in-Gpt.ensures.is tells) in
    passed c.from_residual-in_err-read_gpt-in-Gpt.result c.in_err-read_gpt-in-Gpt.field-0.0 _ _ c.from_residual-in_err-read_gpt-in-Gpt.ensures.1 gpt
    (gpt_fault disk (sym found ∙ ap (λ (style : Style). Ok style) c.in-Gpt.is))

pub returns-in_err-read_gpt-in-Gpt-clause-looks : goal.returns-in_err-read_gpt-in-Gpt-clause-looks
returns-in_err-read_gpt-in-Gpt-clause-looks g c =
    looks_then c.in_ok-mbr.ensures.looks c.in_err-read_gpt-in-Gpt.ensures.looks
    (passed_disk c.from_residual-in_err-read_gpt-in-Gpt.result c.in_err-read_gpt-in-Gpt.field-0.0 c.from_residual-in_err-read_gpt-in-Gpt.ensures.1)

pub returns-in_ok-read_gpt-in-Gpt-clause-is : goal.returns-in_ok-read_gpt-in-Gpt-clause-is
returns-in_ok-read_gpt-in-Gpt-clause-is g c tells =
    let disk = image (g.H.Host.seen c.args.host.now).content c.args.disk in
    let there : c.in_ok-mbr.mbr ≡ sector disk 0 = c.in_ok-mbr.ensures.bytes tells in
    let found = rw there at c.in_ok-check_mbr.ensures in
    let gpt = rw c.in_ok-mbr.ensures.looks.still.content at (c.in_ok-read_gpt-in-Gpt.ensures.is tells) in
    gpt_is disk c.in_ok-read_gpt-in-Gpt.field-0 (sym found ∙ ap (λ (style : Style). Ok style) c.in-Gpt.is) gpt

pub returns-in_ok-read_gpt-in-Gpt-clause-looks : goal.returns-in_ok-read_gpt-in-Gpt-clause-looks
returns-in_ok-read_gpt-in-Gpt-clause-looks g c = looks_then c.in_ok-mbr.ensures.looks c.in_ok-read_gpt-in-Gpt.ensures.looks (λ is. absurd (cc is))
