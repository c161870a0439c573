use Rattle.std.proofs.Common.{rules, ◌≡◌, ◌∙◌, List, ap}
use Rattle.ldm_look.specs.declared.scanned.Scanned.{Scanned}
use Rattle.ldm_look.specs.Looks.{said_scan, scan_answer}
use Rattle.ldm_look.proofs.EndLaws.{says_first}
use Rattle.ldm_look.proofs.looking.scan.Goals as goal

pub returns-in-Ok : goal.returns-in-Ok
returns-in-Ok g c =
    let same : c.as_slice.result.now ≡ c.in-Ok.scanned.items = search rules in
    says_first (c.say_made.ensures.says (said_scan c.args.format.now c.as_slice.result.now) c.said_scan-text.ensures) c.scan_images.ensures.looks g.met.H.Host.tells_both
    (λ tells answer e. (c.in-Ok.scanned.items, c.in-Ok.ensures.is tells, e ∙ ap (λ (l : List Scanned). scan_answer c.args.format.now l) same))
