use Rattle.std.proofs.Common.{inr, [], ◌∷◌, refl, sym, ◌∙◌, subst, Option, Some}
use Rattle.ldm_rescue.specs.declared.losses.Loss.{Loss}
use Rattle.ldm_rescue.specs.Losses.{GoesOn, AddsPiece}
use Rattle.ldm_rescue.proofs.losses.add.Goals as goal

pub returns : goal.returns
returns g c =
    let none : GoesOn c.in-Some.range c.args.piece → ⊥ = λ goes. let yes = c.goes_on.ensures.no goes in cc in (
      c.in-Some.range ∷ [],
      subst (λ (o : Option Loss). AddsPiece o c.args.piece (c.in-Some.range ∷ []) (Some c.args.piece)) (sym c.in-Some.is) (inr (none, refl, refl)),
      λ tells. c.begin-2.ensures tells ∙ c.lose.ensures tells,
    )
