use Rattle.std.proofs.Common.{refl}
use Rattle.ldm_made.proofs.MadeLaws.{children_is}
use Rattle.ldm_made.proofs.changed.with_children.Goals as goal

pub returns : goal.returns
returns c = children_is c.args.component.now c.in_ok-changed.changed _ c.args.children c.requires c.in_ok-changed.ensures refl
