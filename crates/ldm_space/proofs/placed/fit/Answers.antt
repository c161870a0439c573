use Rattle.std.proofs.Common.{◌-◌, ◌^◌, sym, arith}
use Rattle.std.proofs.lemmas.Grind.{common_steps}
use Rattle.ldm_space.proofs.FreeLaws.{is_none}
use Rattle.ldm_space.proofs.GapLaws.{limited, limited_none, none_limited}
use Rattle.ldm_space.proofs.placed.fit.Goals as goal

pub returns-in_err-last-clause-first : goal.returns-in_err-last-clause-first
returns-in_err-last-clause-first c taken are = grind (arith, common_steps, is_none)

pub returns-in_err-start-clause-first : goal.returns-in_err-start-clause-first
returns-in_err-start-clause-first c taken are = grind (arith, common_steps, none_limited)

pub returns-then-start-last-clause-first : goal.returns-then-start-last-clause-first
returns-then-start-last-clause-first c taken are =
    let last = c.in_ok-last.ensures in
    sym (limited taken c.args.asked.disk (2 ^ 64 - 1) c.args.asked.limit c.args.asked.size c.in_ok-start.start (omega arith) (sym (c.in_ok-start.ensures.first taken c.args.asked.disk (2 ^ 64 - 1) are).is) (omega arith))

pub returns-then-start-last-clause-left : goal.returns-then-start-last-clause-left
returns-then-start-last-clause-left c taken are = (c.in_ok-start.ensures.first taken c.args.asked.disk (2 ^ 64 - 1) are).gaps

pub returns-else-start-last-clause-first : goal.returns-else-start-last-clause-first
returns-else-start-last-clause-first c taken are =
    let last = c.in_ok-last.ensures in
    sym (limited_none taken c.args.asked.disk (2 ^ 64 - 1) c.args.asked.limit c.args.asked.size c.in_ok-start.start (omega arith) (sym (c.in_ok-start.ensures.first taken c.args.asked.disk (2 ^ 64 - 1) are).is) (omega arith))
