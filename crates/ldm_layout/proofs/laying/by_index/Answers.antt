use Rattle.std.proofs.Common.{ℕ, rules, refl}
use Rattle.std.proofs.lemmas.List.Sorted.{IsNonDecreasingBy-from_sort_by_key, answers_always}
use Rattle.ldm_layout.proofs.SortLaws.{stable_is, stable_numbers}
use Rattle.ldm_places.specs.declared.extent.Extent.{Extent}
use Rattle.ldm_layout.proofs.laying.by_index.Goals as goal

pub returns : goal.returns
returns c =
    let with_index : ℕ → Extent = λ k. record { component = 0; disk = 0; start = 0; size = 0; offset = 0; index = k } in
    stable_is (λ e. e.index) _ _
    (IsNonDecreasingBy-from_sort_by_key (λ e. e.index) _ c.in_ok-sort_by_key.ensures.sorted (λ a r q k. search rules))
    (stable_numbers (λ e. e.index) with_index (λ k. refl) _ _ (c.in_ok-sort_by_key.ensures.stable (λ e. e.index) (answers_always _ _ _ (λ f a r g h. search rules))))
