use Rattle.std.proofs.Common.{◌≡◌, ◌++◌, OnOk, subst, sym}
use Rattle.json.specs.Tree.{json_tokens}
use Rattle.ldm_scan.specs.declared.finding.Finding.{Finding}
use Rattle.ldm_scan.specs.Findings.{finding_json}
use Rattle.ldm_scan.proofs.finding_json.push_finding_json.Goals as goal

pub returns-in-Unread : goal.returns-in-Unread
returns-in-Unread c =
    subst (λ (f : Finding). OnOk c.push_unknown-in-Unread.result (c.push_unknown-in-Unread.new.json ≡ c.args.json.now ++ json_tokens (finding_json c.args.paths.now (c.args.image, f))))
    (sym c.in-Unread.is) c.push_unknown-in-Unread.ensures
