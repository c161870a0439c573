use Rattle.std.proofs.Common.{◌∙◌}
use Rattle.ldm_group.proofs.index.Index.volumes.Goals as goal

pub returns : goal.returns
returns c = λ records is. c.copied.ensures ∙ c.get.ensures.value ∙ is.volumes c.args.name.now
