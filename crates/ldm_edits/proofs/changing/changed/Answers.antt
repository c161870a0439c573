use Rattle.std.proofs.Common.{◌∙◌, ◌+◌}
use Rattle.ldm_edits.proofs.Common.{grown_to}
use Rattle.ldm_group.proofs.InOrder.{never_twice}
use Rattle.ldm_group.proofs.AddedLaws.{next_is}
use Rattle.ldm_edits.proofs.changing.changed.Goals as goal

pub unreachable-requires : goal.unreachable-requires
unreachable-requires c =
    let twice = rw c.in-Err-SameId.field-0-is at c.in-Err-SameId.ensures in
    let up = c.requires.rising c.stay.ensures.rising in
    never_twice _ _ _ (rw (c.in_ok-append.ensures.items, c.in_ok-records.ensures.is) up) twice

pub returns-in-Ok : goal.returns-in-Ok
returns-in-Ok c =
    let all = rw c.in_ok-records.ensures.is at c.in_ok-append.ensures.items in
    let header = c.in_ok-header.ensures
    ∙ (λ i. grown_to (c.header.ensures i) (c.requires.last i) ((c.header-2.ensures i).seq + 1)) in
    next_is c.in-Ok.next _ _ c.in_ok-header.header _ (c.requires.rising c.stay.ensures.rising) all header c.in-Ok.ensures
