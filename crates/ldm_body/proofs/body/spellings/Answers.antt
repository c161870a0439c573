use Rattle.std.proofs.Common.{ℕ, List, [], ◌∷◌, ◌++◌, take, get_or, inl, inr, sym, ap, subst, ◌∙◌, arith}
use Rattle.std.proofs.lemmas.Bool.{cases_eq}
use Rattle.std.proofs.lemmas.List.{take_more, map-append, get_or_default}
use Rattle.ldm_records.specs.declared.types.Record.{Record}
use Rattle.ldm_records.specs.Plain.{IsRecord, own_spelling}
use Rattle.ldm_records.specs.Views.{plain_of}
use Rattle.ldm_body.specs.Body.{spellings}
use Rattle.ldm_body.proofs.body.spellings.Goals as goal

pub loop-r-preserved : goal.loop-r-preserved
loop-r-preserved c =
    let records : List Record = c.args.records.now in
    let i : ℕ = c.loop-r.r-index in
    let r : Record = c.r-item.result in
    record {
      spelled =
          c.in_ok-push.ensures.items ∙ ap (λ (l : List (List ℕ)). l ++ c.in_ok-spelling.field-0 ∷ []) c.loop-r.invariant.spelled
          ∙ ap (λ (b : List ℕ). spellings (take i records) ++ b ∷ []) c.in_ok-spelling.ensures.own
          ∙ sym (map-append (λ (r : Record). own_spelling (plain_of r)) (take i records) (r ∷ []))
          ∙ ap spellings (ap (λ (s : Record). take i records ++ s ∷ []) c.r-item.is ∙ sym (take_more records i r c.loop-r-test.true));
      sound = λ k d lt. elim (cases_eq k i) [
        | inr ne ↦ c.loop-r.invariant.sound k d (omega (arith, lt, ne))
        | inl same ↦
            subst (λ (s : Record). IsRecord (plain_of s))
            (c.r-item.is ∙ get_or_default records i r d c.loop-r-test.true ∙ ap (λ (j : ℕ). get_or records j d) (sym same))
            (c.in_ok-spelling.ensures.again []).sound
      ];
    }
