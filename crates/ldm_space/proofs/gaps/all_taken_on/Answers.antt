use Rattle.std.proofs.Common.{arith, rules}
use Rattle.std.proofs.lemmas.List.Elements.{filter_map-append}
use Rattle.std.proofs.lemmas.List.Sorted.{IsNonDecreasingBy-from_sort_by_key}
use Rattle.ldm_space.proofs.gaps.all_taken_on.Goals as goal

pub returns-clause-same : goal.returns-clause-same
returns-clause-same c = grind (arith, filter_map-append)

pub returns-clause-rising : goal.returns-clause-rising
returns-clause-rising c = IsNonDecreasingBy-from_sort_by_key (λ t. t.start) _ c.sort_unstable_by_key.ensures.sorted (λ a r q k. search rules)
