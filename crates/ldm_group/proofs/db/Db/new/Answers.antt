use Rattle.std.proofs.Common.{rules, sym, refl, subst}
use Rattle.std.specs.List.Sorted.{IsNonDecreasingBy, IsPermutation}
use Rattle.std.proofs.lemmas.List.Sorted.{IsNonDecreasingBy-from_sort_by_key}
use Rattle.ldm_group.specs.Order.{Rising, place_of, IsFirstTwice, NoneTwice}
use Rattle.ldm_group.proofs.Rise.{strictly}
use Rattle.ldm_group.proofs.OrderLaws.{found_twice}
use Rattle.ldm_group.proofs.db.Db.new.Goals as goal

pub returns-in-Some : goal.returns-in-Some
returns-in-Some c =
    let up : IsNonDecreasingBy place_of c.sort_by_key.new.self.items = IsNonDecreasingBy-from_sort_by_key place_of _ c.in_ok-sort_by_key.ensures.sorted (λ a r q k. search rules) in
    let first : IsFirstTwice c.sort_by_key.new.self.items c.in-Some.at = subst (λ xs. IsFirstTwice xs c.in-Some.at) c.as_slice.ensures.value c.in-Some.ensures in
    found_twice c.args.records.items c.sort_by_key.new.self.items c.in-Some.at c.kind_of.result c.id_of.result c.index.result.now c.index-in-Some.result.now
    c.sort_by_key.ensures.permutation up first c.index.ensures c.index-in-Some.ensures c.kind_of.ensures c.id_of.ensures

pub invariant_of-result : goal.invariant_of-result
invariant_of-result c =
    let up : IsNonDecreasingBy place_of c.sort_by_key.new.self.items = IsNonDecreasingBy-from_sort_by_key place_of _ c.in_ok-sort_by_key.ensures.sorted (λ a r q k. search rules) in
    subst Rising (sym c.in_ok-of.ensures) (strictly place_of c.sort_by_key.new.self.items up (subst NoneTwice c.as_slice.ensures.value c.in_default.ensures))

pub returns : goal.returns
returns c = record {
  header_is = refl;
  same = subst (λ xs. IsPermutation c.args.records.items xs) (sym c.in_ok-of.ensures) c.sort_by_key.ensures.permutation;
  rising = invariant_of-result c;
}
