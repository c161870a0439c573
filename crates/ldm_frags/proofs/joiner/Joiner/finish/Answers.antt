use Rattle.std.proofs.Common.{◌∙◌, ap, sym}
use Rattle.ldm_frags.specs.Kept.{blocks_of}
use Rattle.ldm_frags.proofs.KeptLaws.{same_kept, fed_answers}
use Rattle.ldm_frags.proofs.joiner.Joiner.finish.Goals as goal

pub returns-clause-answers : goal.returns-clause-answers
returns-clause-answers c = λ blocks fed.
    fed_answers c.args.self (blocks_of c.as_slice.result.now) blocks c.join_all.result
    (same_kept _ _ c.self.view_is ∙ ap blocks_of (sym c.as_slice.ensures.value)) fed c.join_all.ensures
