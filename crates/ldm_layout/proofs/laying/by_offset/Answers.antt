use Rattle.std.proofs.Common.{ℕ, rules, arith}
use Rattle.std.proofs.lemmas.List.Sorted.{IsNonDecreasingBy-from_sort_by_key, answers_always}
use Rattle.ldm_layout.proofs.SortLaws.{stable_is, stable_numbers}
use Rattle.ldm_layout.specs.Parts.{tile_key}
use Rattle.ldm_places.specs.declared.extent.Extent.{Extent}
use Rattle.ldm_layout.proofs.laying.by_offset.Goals as goal

pub returns : goal.returns
returns c =
    let with_key : ℕ → Extent = λ k. record { component = 0; disk = 0; start = 0; size = k; offset = 0; index = 0 } in
    stable_is tile_key _ _
    (IsNonDecreasingBy-from_sort_by_key tile_key _ c.in_ok-sort_by_key.ensures.sorted (λ a r q k. search rules))
    (stable_numbers tile_key with_key (λ k. omega arith) _ _ (c.in_ok-sort_by_key.ensures.stable tile_key (answers_always _ _ _ (λ f a r g h. search rules))))
