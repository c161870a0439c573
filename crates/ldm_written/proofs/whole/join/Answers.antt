use Rattle.ldm_written.proofs.AnswerLaws.{answers_gives, answers_refuses, faultless}
use Rattle.ldm_frags.proofs.JoinLaws.{one_list}
use Rattle.ldm_written.proofs.HoldLaws.{holds_joins}
use Rattle.ldm_written.proofs.whole.join.Goals as goal

pub returns-clause-joined : goal.returns-clause-joined
returns-clause-joined c = answers_gives c.args.blocks.now c.join_each.result c.join_each.ensures

pub returns-clause-refused : goal.returns-clause-refused
returns-clause-refused c = answers_refuses c.args.blocks.now c.join_each.result c.join_each.ensures

pub returns-clause-faultless : goal.returns-clause-faultless
returns-clause-faultless c = faultless c.args.blocks.now

pub returns-clause-one : goal.returns-clause-one
returns-clause-one c = one_list c.args.blocks.now

pub returns-clause-held : goal.returns-clause-held
returns-clause-held c = λ records. holds_joins c.args.blocks.now records c.requires.small
