use Rattle.std.proofs.Common.{sym, arith}
use Rattle.ldm_space.specs.Free.{taken_in}
use Rattle.ldm_space.proofs.FreeLaws.{is_first, is_none}
use Rattle.ldm_space.proofs.free.first_fit.Goals as goal

pub returns-then-data_size-len : goal.returns-then-data_size-len
returns-then-data_size-len c = sym (is_none (taken_in c.args.db.now.records) c.args.disk c.args.data_size c.args.len (λ q e. absurd (omega arith)))

pub returns-then-next-at : goal.returns-then-next-at
returns-then-next-at c = grind (arith, is_first)

pub returns : goal.returns
returns c = sym (is_none (taken_in c.args.db.now.records) c.args.disk c.args.data_size c.args.len (λ q e. c.loop-at.invariant q (omega arith)))
