use Rattle.std.proofs.Common.{◌≡◌, ℕ, List, inl, inr, sym, ap, subst, ◌∙◌, length, slice_index, below_more, arith}
use Rattle.std.proofs.lemmas.Bool.{cases_eq}
use Rattle.std.proofs.lemmas.List.{get_or_default}
use Rattle.ldm_frags.specs.Blocks.{block_at}
use Rattle.ldm_written.specs.Written.{unused_block}
use Rattle.ldm_changed.specs.Plan.{AreFreed}
use Rattle.ldm_changed.proofs.planning.free.Goals as goal

pub loop-k-preserved : goal.loop-k-preserved
loop-k-preserved c =
    let numbers = c.as_slice-numbers.result.now in
    let same = c.as_slice-numbers.ensures in
    let k = c.loop-k.k in
    let w = c.write_unused.ensures in
    record {
      unused = below_more _ _
          (λ j lt. elim (cases_eq (slice_index numbers j) (slice_index numbers k)) [
            | inl is ↦ ap (block_at c.write_unused.new.out) is ∙ w.here ∙ ap unused_block (sym is)
            | inr ne ↦
                (let there = c.requires.within j 0 (omega (arith, lt, c.loop-k-test.true, ap (λ (l : List ℕ). length l) same)) in
                let at : slice_index c.args.slots.now j ≡ slice_index numbers j = ap (λ (l : List ℕ). slice_index l j) (sym same) in
                w.others (slice_index numbers j) (omega (arith, there.0, at)) ne ∙ c.loop-k.invariant.unused j lt)
          ])
          w.here;
      others = λ b low avoid. w.others b low (λ e. avoid k 0 c.loop-k-test.true (sym e)) ∙ c.loop-k.invariant.others b low avoid;
    }

pub returns : goal.returns
returns c =
    let numbers = c.as_slice-numbers.result.now in
    subst (λ (l : List ℕ). AreFreed l c.args.out.now c.loop-k.out) c.as_slice-numbers.ensures (record {
      unused = λ k d lt. subst (λ (b : ℕ). block_at c.loop-k.out b ≡ unused_block b) (get_or_default numbers k 0 d lt) (c.loop-k.invariant.unused k (omega (arith, lt, c.loop-k-test.false)));
      others = c.loop-k.invariant.others;
    })
