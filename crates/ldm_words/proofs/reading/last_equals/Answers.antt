use Rattle.std.proofs.Common.{arith}
use Rattle.ldm_words.proofs.EqualsLaws.{last_at, none_there}
use Rattle.ldm_words.proofs.reading.last_equals.Goals as goal

pub returns-then-token-at-eq61 : goal.returns-then-token-at-eq61
returns-then-token-at-eq61 c = last_at c.args.token.now c.loop-at.at c.loop-at-test.true c.loop-at.invariant.inside c.if-token-at-eq61.true c.loop-at.invariant.none

pub returns : goal.returns
returns c = none_there c.args.token.now (λ k lt. c.loop-at.invariant.none k (omega arith) lt)
