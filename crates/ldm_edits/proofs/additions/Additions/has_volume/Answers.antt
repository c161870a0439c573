use Rattle.std.proofs.Common.{◌≡◌}
use Rattle.ldm_edits.proofs.Common.{is_volume_named}
use Rattle.std.specs.List.{list_any}
use Rattle.ldm_group.proofs.AddedLaws.{named_any}
use Rattle.ldm_edits.proofs.AdditionLaws.{named_in}
use Rattle.ldm_edits.proofs.AskedLaws.{copied_some}
use Rattle.ldm_edits.proofs.additions.Additions.has_volume.Goals.{After-is_some}
use Rattle.ldm_edits.proofs.additions.Additions.has_volume.Goals as goal

in_group : (c : After-is_some) → list_any (is_volume_named c.args.name.now) c.args.db.now.records ≡ c.is_some.result
in_group c = rw (c.is_some.ensures, copied_some, c.volume_named.ensures.is, named_any)

pub returns-then-is_some : goal.returns-then-is_some
returns-then-is_some c =
    rw (← named_in c.requires c.args.name.now, in_group (goal.at.returns-then-is_some c).After-is_some, c.if-is_some.true)

pub returns-else-is_some : goal.returns-else-is_some
returns-else-is_some c =
    rw (← named_in c.requires c.args.name.now, in_group (goal.at.returns-else-is_some c).After-is_some, c.if-is_some.false)
    (rw c.as_slice.ensures.value at c.has_named.ensures)
