use Rattle.std.proofs.Common.{◌≡◌, ◌+◌, ◌<◌, ℕ, false, Some, List, get_or, sym, ap, subst, ◌∙◌, arith}
use Rattle.std.specs.List.{All}
use Rattle.std.specs.Option.{option_map}
use Rattle.ldm_records.specs.declared.types.Record.{Record}
use Rattle.ldm_group.specs.Order.{id_of}
use Rattle.ldm_group.specs.Partitions.{EndsInRange}
use Rattle.ldm_group.proofs.LookLaws.{find_none}
use Rattle.ldm_rules.proofs.FirstLaws.{below_next, first_at}
use Rattle.ldm_rules.specs.Ends.{data_size}
use Rattle.ldm_rules.specs.Rules.{first_broken, passes_end}
use Rattle.ldm_rules.proofs.ends.over_the_end.Goals as goal

pub returns-then-passes_end-clause-is : goal.returns-then-passes_end-clause-is
returns-then-passes_end-clause-is c =
    let test : Record → _ = passes_end (data_size c.args.labels.now c.args.db.now.records) in
    let here = first_at c.as_slice-records.result.now c.loop-r.r-index c.r-item.result c.loop-r-test.true c.r-item.is test (sym c.passes_end.ensures.is ∙ c.if-passes_end.true) c.loop-r.invariant.keeps in
    ap (λ (id : ℕ). Some id) c.id_of.ensures ∙ sym (ap (λ (found : _). option_map id_of found) here) ∙ ap (first_broken test) c.as_slice-records.ensures.all

pub loop-r-preserved : goal.loop-r-preserved
loop-r-preserved c =
    let next : (P : Record → Type 0) → P c.r-item.result → ((k : ℕ) (r : Record) → k < c.loop-r.r-index → P (get_or c.as_slice-records.result.now k r)) → (k : ℕ) (r : Record) → k < c.loop-r.r-index + 1 → P (get_or c.as_slice-records.result.now k r) =
    below_next c.as_slice-records.result.now c.loop-r.r-index c.r-item.result c.loop-r-test.true c.r-item.is in
    record {
      keeps = next (λ r. passes_end (data_size c.args.labels.now c.args.db.now.records) r ≡ false) (sym c.passes_end.ensures.is ∙ c.if-passes_end.false) c.loop-r.invariant.keeps;
      ends = next EndsInRange (c.passes_end.ensures.ends c.if-passes_end.false) c.loop-r.invariant.ends;
    }

pub returns-clause-is : goal.returns-clause-is
returns-clause-is c =
    let test : Record → _ = passes_end (data_size c.args.labels.now c.args.db.now.records) in
    let none = find_none test c.as_slice-records.result.now (λ k r lt. c.loop-r.invariant.keeps k r (omega arith)) in
    sym (ap (λ (found : _). option_map id_of found) none) ∙ ap (first_broken test) c.as_slice-records.ensures.all

pub returns-clause-ends : goal.returns-clause-ends
returns-clause-ends c = λ none. subst (λ (records : List Record). All EndsInRange records) c.as_slice-records.ensures.all (λ k r lt. c.loop-r.invariant.ends k r (omega arith))
