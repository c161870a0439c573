use Rattle.ldm_table.specs.Tables.{member_at}
use Rattle.ldm_table.proofs.LineLaws.{more_made}
use Rattle.ldm_table.proofs.parts.members_of.Goals as goal

pub columns-preserved : goal.columns-preserved
columns-preserved g c =
    more_made (member_at c.args.found.now c.args.plan.now) c.columns.column c.columns.members.items _ _ c.columns.invariant c.in_ok-member_at.ensures c.in_ok-push.ensures.items
