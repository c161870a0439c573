use Rattle.std.proofs.Common.{[], subst}
use Rattle.std.proofs.lemmas.List.{append-nil}
use Rattle.ldm_frags.specs.Answers.{IsFault}
use Rattle.ldm_frags.specs.Faults.{first_block_fault}
use Rattle.ldm_written.proofs.AnswerLaws.{fault_answers}
use Rattle.ldm_written.proofs.whole.join_each.Goals as goal

pub returns-in_err-feed_all : goal.returns-in_err-feed_all
returns-in_err-feed_all c =
    fault_answers c.args.blocks.now c.from_residual-in_err-feed_all.result c.in_err-feed_all.field-0.0 c.from_residual-in_err-feed_all.ensures.1
    (subst (λ x. IsFault c.in_err-feed_all.field-0.0 (first_block_fault x)) (append-nil c.args.blocks.now) (c.in_err-feed_all.ensures.first [] [] c.in_ok-joiner.ensures.fed))

pub returns : goal.returns
returns c = c.finish.ensures.answers c.args.blocks.now (c.in_ok-feed_all.ensures.fed [] c.in_ok-joiner.ensures.fed)
