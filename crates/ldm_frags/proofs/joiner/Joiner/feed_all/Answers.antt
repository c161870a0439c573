use Rattle.std.proofs.Common.{◌+◌, ◌*◌, ◌++◌, ◌∙◌, List, ℕ, take, drop, subst, arith}
use Rattle.std.proofs.lemmas.List.{take_all}
use Rattle.std.proofs.lemmas.Result.{err_from_is_err_and}
use Rattle.ldm_frags.specs.Fed.{IsFed}
use Rattle.ldm_frags.proofs.KeptLaws.{chunk_fed, chunk_fault}
use Rattle.ldm_frags.proofs.joiner.Joiner.feed_all.Goals as goal

pub loop-block-preserved : goal.loop-block-preserved
loop-block-preserved c =
    let many = c.as_chunks.ensures.front_len in
    let i = c.loop-block.block-index in
    record {
      fed = λ fed is. chunk_fed fed c.args.blocks.now c.as_chunks.result.0.now i _ c.as_chunks.ensures.front (omega arith) c.feed.new.self
          (c.in_ok-feed.ensures.fed (fed ++ take (128 * i) c.args.blocks.now) (c.loop-block.invariant.fed fed is));
      taken = omega (arith, c.in_ok-feed.ensures.taken, c.loop-block.invariant.taken);
      limit = c.in_ok-feed.ensures.limit ∙ c.loop-block.invariant.limit;
    }

pub returns-in_err-feed-clause-first : goal.returns-in_err-feed-clause-first
returns-in_err-feed-clause-first c = λ fed rest is.
    let many = c.as_chunks.ensures.front_len in
    let i = c.loop-block.block-index in
    let passed = err_from_is_err_and c.from_residual.result c.from_residual.ensures.1 in
    rw (passed.1, passed.2)
    (chunk_fault fed c.args.blocks.now c.as_chunks.result.0.now i _ c.as_chunks.ensures.front (omega arith) rest c.in_err-feed.field-0.0
    (c.in_err-feed.ensures.first (fed ++ take (128 * i) c.args.blocks.now) (drop (128 * (i + 1)) c.args.blocks.now ++ rest) (c.loop-block.invariant.fed fed is)))

pub returns-clause-fed : goal.returns-clause-fed
returns-clause-fed c = λ fed is.
    let many = c.as_chunks.ensures.front_len in
    subst (λ (x : List ℕ). IsFed c.loop-block.self (fed ++ x)) (take_all (128 * c.loop-block.block-index) c.args.blocks.now (omega arith)) (c.loop-block.invariant.fed fed is)
