use Rattle.std.proofs.Common.{Option, Vec, Global, IfSome, map, rules, sym, ap, subst, ◌∙◌}
use Rattle.std.specs.List.Sorted.{IsNonDecreasingBy}
use Rattle.std.proofs.lemmas.Bool.{both_ways}
use Rattle.std.proofs.lemmas.List.Sorted.{IsNonDecreasingBy-from_sort_by_key}
use Rattle.ldm_group.specs.Order.{place_of}
use Rattle.ldm_body.specs.declared.finding.Found.{Found}
use Rattle.ldm_body.specs.Finding.{AreFound, stored_of}
use Rattle.ldm_body.proofs.FindLaws.{table_held, found_records}
use Rattle.ldm_body.proofs.finding.table_of.Goals as goal

pub returns-then-not-are_of-clause-none : goal.returns-then-not-are_of-clause-none
returns-then-not-are_of-clause-none c none store =
    let blocks = c.args.blocks.now in
    let are : AreFound blocks (map stored_of c.in-Some.found.items) = subst (λ (o : Option (Vec Found Global)). IfSome o (λ list. AreFound blocks (map stored_of list.items))) c.in-Some.is c.in_ok-found.ensures.held in
    let up : IsNonDecreasingBy (λ (f : Found). place_of f.content) c.sort_by_key.new.self.items =
    IsNonDecreasingBy-from_sort_by_key (λ (f : Found). place_of f.content) _ c.in_ok-sort_by_key.ensures.sorted (λ a r q k. search rules) in
    let is = found_records blocks c.args.records.now c.in-Some.found.items c.sort_by_key.new.self.items are c.sort_by_key.ensures.permutation up c.requires.rising store in
    both_ways c.are_of.result c.if-not-are_of.true (c.are_of.ensures.1 (ap (map (λ (f : Found). f.content)) c.deref.ensures.value ∙ is))

pub returns-clause-held : goal.returns-clause-held
returns-clause-held c =
    let blocks = c.args.blocks.now in
    let are : AreFound blocks (map stored_of c.in-Some.found.items) = subst (λ (o : Option (Vec Found Global)). IfSome o (λ list. AreFound blocks (map stored_of list.items))) c.in-Some.is c.in_ok-found.ensures.held in
    let is = ap (map (λ (f : Found). f.content)) (sym c.deref.ensures.value) ∙ c.are_of.ensures.0 c.if-not-are_of.false in
    table_held blocks c.args.records.now c.in-Some.found.items c.sort_by_key.new.self.items c.in_ok-slots_of.field-0.items are c.sort_by_key.ensures.permutation is
    (c.in_ok-slots_of.ensures ∙ ap (map (λ (f : Found). f.slots)) c.deref-2.ensures.value)
