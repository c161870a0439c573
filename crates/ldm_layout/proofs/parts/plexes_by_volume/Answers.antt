use Rattle.std.proofs.Common.{ℕ, rules, refl, None}
use Rattle.std.proofs.lemmas.List.Sorted.{IsNonDecreasingBy-from_sort_by_key, answers_always}
use Rattle.ldm_layout.proofs.SortLaws.{stable_numbers}
use Rattle.ldm_layout.specs.declared.parts.Plex.{Plex}
use Rattle.ldm_layout.proofs.parts.plexes_by_volume.Goals as goal

pub returns-clause-rising : goal.returns-clause-rising
returns-clause-rising c = IsNonDecreasingBy-from_sort_by_key (λ x. x.volume) _ c.in_ok-sort_by_key.ensures.sorted (λ a r q k. search rules)

pub returns-clause-same : goal.returns-clause-same
returns-clause-same c =
    let of_key : ℕ → Plex = λ k. record { volume = k; id = 0; layout = 0; striping = None } in
    stable_numbers (λ x. x.volume) of_key (λ k. refl) _ _ (c.in_ok-sort_by_key.ensures.stable (λ x. x.volume) (answers_always _ _ _ (λ f a r g h. search rules)))
