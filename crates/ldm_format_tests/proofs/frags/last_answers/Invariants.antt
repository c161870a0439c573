use Rattle.std.proofs.Common.{◌≡◌, ◌≤◌}
use Rattle.ldm_frags.specs.Blocks.{count}
use Rattle.ldm_format_tests.proofs.frags.last_answers.Given as goal

abbrev pub invariant-loop-block : goal.invariant-loop-block
invariant-loop-block l = (l.joiner.limit ≡ 9) × (count l.joiner.blocks ≤ l.block-index)
