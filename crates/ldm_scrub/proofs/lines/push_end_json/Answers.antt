use Rattle.std.proofs.Common.{◌∙◌, ◌++◌, List, ℕ, ap, codes, decimal}
use Rattle.ldm_scrub.specs.Lines.{counts_line}
use Rattle.ldm_scrub.proofs.lines.push_end_json.Goals as goal

pub returns-clause-is : goal.returns-clause-is
unfolding counts_line
returns-clause-is c paths =
    c.push.ensures.is ∙ ap (λ (text : List ℕ). text ++ codes "}\n")
    (c.push_number-at-2.ensures.is ∙ ap (λ (text : List ℕ). text ++ decimal c.args.bad)
    (c.push-at-3.ensures.is ∙ ap (λ (text : List ℕ). text ++ codes ",\"bad\":")
    (c.push_number-at.ensures.is ∙ ap (λ (text : List ℕ). text ++ decimal c.args.checked)
    (c.push-at-2.ensures.is ∙ ap (λ (text : List ℕ). text ++ codes ",\"checked\":") c.push-at.ensures.is))))
