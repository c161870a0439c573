use Rattle.std.proofs.Common.{◌≡◌, ◌∙◌, ℕ, List, IfOk, subst}
use Rattle.ldm_text.specs.Texts.{text_of_refusal}
use Rattle.ldm_look.proofs.saying.opening_refusal.Goals as goal

pub returns : goal.returns
returns c = subst (λ (text : List ℕ). IfOk c.refusal_text.result (λ line. line ≡ text_of_refusal text)) (c.as_slice.ensures ∙ c.in_ok-text.ensures) c.refusal_text.ensures
