use Rattle.std.proofs.Common.{◌∙◌}
use Rattle.ldm_group.specs.Looks.{is_at}
use Rattle.ldm_rules.proofs.FirstLaws.{none_counted, none_handed}
use Rattle.ldm_rules.proofs.tree.lacks.Goals as goal

pub returns : goal.returns
returns c = none_handed c.by_id.result c.is_none.result _ c.is_none.ensures c.by_id.ensures.is ∙ none_counted (is_at c.args.kind c.args.id) c.args.db.now.records
