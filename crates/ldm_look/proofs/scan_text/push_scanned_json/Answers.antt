use Rattle.std.proofs.Common.{◌≡◌, ◌++◌, OnOk, subst, sym}
use Rattle.json.specs.Tree.{json_tokens}
use Rattle.ldm_look.specs.declared.scanned.Scanned.{Scanned}
use Rattle.ldm_look.specs.Scan.{scanned_json}
use Rattle.ldm_look.proofs.scan_text.push_scanned_json.Goals as goal

pub returns-in-Closed : goal.returns-in-Closed
returns-in-Closed c =
    subst (λ (s : Scanned). OnOk c.push_closed_json.result (c.push_closed_json.new.json ≡ c.args.json.now ++ json_tokens (scanned_json c.args.paths.now (c.args.image, s))))
    (sym c.in-Closed.is) c.push_closed_json.ensures
