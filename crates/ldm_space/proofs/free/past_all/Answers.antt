use Rattle.std.proofs.Common.{refl, arith}
use Rattle.std.proofs.lemmas.Bool.{cases_lt}
use Rattle.ldm_space.specs.Free.{is_taken}
use Rattle.ldm_space.proofs.FreeLaws.{past_on, record_taken, free_more}
use Rattle.ldm_space.proofs.free.past_all.Goals as goal

pub loop-r-init : goal.loop-r-init
unfolding is_taken
loop-r-init c = record { not_before = omega arith; passed = λ q a b. absurd (omega arith); free = λ e. refl }

pub loop-r-preserved : goal.loop-r-preserved
loop-r-preserved c = grind (arith, past_on, cases_lt, record_taken, free_more)
