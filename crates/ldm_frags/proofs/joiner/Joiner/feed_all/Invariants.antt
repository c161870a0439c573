use Rattle.std.proofs.Common.{◌≡◌, ◌+◌, ◌*◌, ◌++◌, ℕ, List, take}
use Rattle.ldm_frags.specs.Blocks.{count}
use Rattle.ldm_frags.specs.Fed.{IsFed}
use Rattle.ldm_frags.proofs.joiner.Joiner.feed_all.Given as goal

abbrev pub invariant-loop-block : goal.invariant-loop-block
invariant-loop-block l = record {
  fed : (fed : List ℕ) → IsFed l.fn.self fed → IsFed l.self (fed ++ take (128 * l.block-index) l.blocks);
  taken : count l.self.blocks ≡ count l.fn.self.blocks + l.block-index;
  limit : l.self.limit ≡ l.fn.self.limit;
}
