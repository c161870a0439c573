use Rattle.std.proofs.Common.{◌≡◌, ◌++◌}
use Rattle.ldm_group.proofs.InOrder.{never_twice}
use Rattle.ldm_group.proofs.AddedLaws.{next_is}
use Rattle.ldm_edits.proofs.additions.Additions.joined.Goals.{In_ok-records}
use Rattle.ldm_edits.proofs.additions.Additions.joined.Goals as goal

all : (c : In_ok-records) → c.in_ok-records.records.items ≡ c.args.db.now.records ++ c.args.self.now.records.items
all c = rw (c.in_ok-records.ensures, c.as_slice.ensures.all, c.as_slice-2.ensures.value)

pub unreachable-requires : goal.unreachable-requires
unreachable-requires c =
    never_twice c.in_ok-records.records.items _ _ (rw (all (goal.at.unreachable-requires c).In_ok-records) c.requires.rising)
    (rw c.in-Err-SameId.field-0-is at c.in-Err-SameId.ensures)

pub returns-in-Ok : goal.returns-in-Ok
returns-in-Ok c =
    next_is c.in-Ok.both _ _ c.in_ok-header.header _ c.requires.rising (all (goal.at.returns-in-Ok c).In_ok-records)
    (rw c.header.ensures at c.in_ok-header.ensures) c.in-Ok.ensures
