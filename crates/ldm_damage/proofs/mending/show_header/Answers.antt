use Rattle.std.proofs.Common.{◌≡◌, ◌∙◌, ap, refl, List}
use Rattle.ldm_host.specs.Seen.{image}
use Rattle.ldm_host.proofs.Relations.{looks_as}
use Rattle.ldm_label.specs.Fields.{sector}
use Rattle.ldm_view.specs.declared.patch.Patch.{Patch}
use Rattle.ldm_view.specs.Patches.{laid, patched}
use Rattle.ldm_damage.proofs.LookLaws.{on_ok_map}
use Rattle.ldm_damage.proofs.mending.show_header.Goals as goal

pub returns-in_err-read_under-clause-looks : goal.returns-in_err-read_under-clause-looks
returns-in_err-read_under-clause-looks g c = looks_as c.in_err-read_under.ensures.looks (λ failed. refl)

pub returns-clause-here : goal.returns-clause-here
returns-clause-here g c tells =
    let disk = c.args.disk in
    let whole = image (g.H.Host.seen c.args.under.now.host).content disk in
    let header : c.in_ok-bytes.bytes.items ≡ sector whole c.args.from = c.in_ok-bytes.ensures.items ∙ c.in_ok-read_under.ensures.filled tells in
    on_ok_map c.show_bytes.result _ _
    (λ shown i. shown i ∙ ap (λ (l : List Patch). laid (patched l disk i) 3072 c.in_ok-bytes.bytes.items) c.in_ok-read_under.ensures.patches
    ∙ ap (laid (patched c.args.under.now.patches.items disk i) 3072) header)
    c.show_bytes.ensures.here
