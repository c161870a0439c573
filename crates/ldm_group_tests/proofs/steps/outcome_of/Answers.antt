use Rattle.ldm_group_tests.proofs.steps.outcome_of.Goals as goal

pub returns : goal.returns
returns c = λ next e. (c.in_ok-step-in_default-command.ensures.keeps next e).sound
