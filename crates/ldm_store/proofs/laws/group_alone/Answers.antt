use Rattle.ldm_store.proofs.AlikeLaws.{same_faults, same_blocked, alike_answers}
use Rattle.ldm_store.proofs.laws.group_alone.Goals as goal

pub returns-clause-faults : goal.returns-clause-faults
returns-clause-faults c a b labels same = same_faults a b labels same

pub returns-clause-blocked : goal.returns-clause-blocked
returns-clause-blocked c a b labels same = same_blocked a b labels same

pub returns-clause-alike : goal.returns-clause-alike
returns-clause-alike c xs ys labels a b all x y = alike_answers xs ys labels a b all x y
