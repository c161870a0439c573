use Rattle.std.proofs.Common.{ℕ, rules, refl}
use Rattle.std.proofs.lemmas.List.Sorted.{IsNonDecreasingBy-from_sort_by_key, answers_always}
use Rattle.ldm_layout.proofs.SortLaws.{stable_numbers}
use Rattle.ldm_places.specs.declared.extent.Extent.{Extent}
use Rattle.ldm_layout.proofs.parts.extents_by_component.Goals as goal

pub returns-clause-rising : goal.returns-clause-rising
returns-clause-rising c = IsNonDecreasingBy-from_sort_by_key (λ x. x.component) _ c.in_ok-sort_by_key.ensures.sorted (λ a r q k. search rules)

pub returns-clause-same : goal.returns-clause-same
returns-clause-same c =
    let of_key : ℕ → Extent = λ k. record { component = k; disk = 0; start = 0; size = 0; offset = 0; index = 0 } in
    stable_numbers (λ x. x.component) of_key (λ k. refl) _ _ (c.in_ok-sort_by_key.ensures.stable (λ x. x.component) (answers_always _ _ _ (λ f a r g h. search rules)))
