use Rattle.std.proofs.Common.{ap, ◌∙◌}
use Rattle.ldm_group.specs.Hits.{at_object}
use Rattle.ldm_group.specs.declared.index.ObjectId.{ObjectId}
use Rattle.ldm_group.proofs.index.Index.children.Goals as goal

pub returns : goal.returns
returns c = λ records is.
    c.copied.ensures ∙ c.get.ensures.value ∙ ap (λ (key : ObjectId). at_object c.args.self.now.children key.kind key.id) c.new.ensures ∙ is.children c.args.kind c.args.id
