use Rattle.std.proofs.Common.{◌∙◌, ◌++◌, List, ℕ, ap, sym, take}
use Rattle.ldm_scrub.proofs.LineLaws.{five_parts, failing_is}
use Rattle.ldm_scrub.proofs.lines.push_row_json.Goals as goal

pub returns-clause-is : goal.returns-clause-is
returns-clause-is c =
    let front = take c.args.used c.args.page.now in
    five_parts front _ _ _ _ _ _ _ _ _ _ c.push-at.ensures.is c.push_number-at.ensures.is c.push-at-2.ensures.is c.push_number-at-2.ensures.is c.push.ensures.is
    ∙ ap (λ (text : List ℕ). front ++ text) (sym (failing_is c.args.row c.args.offset))
