use Rattle.std.proofs.Common.{◌≡◌, ◌∙◌, sym, refl, Ok}
use Rattle.ldm_edits.specs.Additions.{with_added}
use Rattle.ldm_edits.specs.Spots.{spots_for}
use Rattle.ldm_edits.proofs.AdditionLaws.{IsNew, as_new, lie_there, same_group, then_refused}
use Rattle.ldm_edits.specs.Creating.{created}
use Rattle.ldm_edits.proofs.additions.Additions.create.Goals.{Else-has_volume, In_ok-maps}
use Rattle.ldm_edits.proofs.additions.Additions.create.Goals as goal
use Rattle.ldm_label.proofs.ReadLaws.{handed_on}

new : (c : Else-has_volume) → IsNew c.args.db.now c.args.labels.now c.args.self.now c.args.name.now c.args.guid
    c.args.layout.now
new c = record { are = c.requires.are; free = sym c.has_volume.ensures ∙ c.if-has_volume.false }

pub returns-then-has_volume-clause-is : goal.returns-then-has_volume-clause-is
unfolding created
returns-then-has_volume-clause-is c = (rw (← c.has_volume.ensures, c.if-has_volume.true), refl)

pub returns-in_err-wanted-clause-is : goal.returns-in_err-wanted-clause-is
returns-in_err-wanted-clause-is c =
    let steps = as_new (new (goal.at.returns-in_err-wanted-clause-is c).Else-has_volume) in
    rw (handed_on c.from_residual.result c.in_err-wanted.field-0.0 c.from_residual.ensures.1, steps)
    (then_refused c.in_err-wanted.field-0.0 _ _ c.in_err-wanted.ensures.is, refl)

pub returns-in_err-maps-clause-is : goal.returns-in_err-maps-clause-is
returns-in_err-maps-clause-is c =
    let steps = as_new (new (goal.at.returns-in_err-maps-clause-is c).Else-has_volume) in
    let error = handed_on c.from_residual-in_err-maps.result c.in_err-maps.field-0.0 c.from_residual-in_err-maps.ensures.1 in
    let refuses = then_refused c.in_err-maps.field-0.0 _ _ (rw c.as_slice.ensures.value at c.in_err-maps.ensures.is) in
    rw (error, steps, c.in_ok-wanted.ensures.is) (refuses, same_group c.args.db.now c.in_err-maps.ensures.stays)

spots : (c : In_ok-maps) → spots_for (with_added c.args.db.now c.args.self.now) c.in_ok-wanted.wanted.items
    ≡ Ok c.in_ok-maps.spots.items
spots c = rw c.as_slice.ensures.value at c.in_ok-maps.ensures.is.0

pub create_at-requires-clause-placed : goal.create_at-requires-clause-placed
create_at-requires-clause-placed c =
    let at = goal.at.create_at-requires-clause-placed c in
    let placed = lie_there (new at.Else-has_volume) c.in_ok-wanted.ensures.is c.in_ok-maps.spots.items (spots at.In_ok-maps) in
    (c.in_ok-wanted.wanted.items, rw (c.as_slice-2.ensures.value, same_group c.args.db.now c.in_ok-maps.ensures.stays) placed)

pub returns-clause-is : goal.returns-clause-is
returns-clause-is c =
    let at = goal.at.returns-clause-is c in
    rw (as_new (new at.Else-has_volume), c.in_ok-wanted.ensures.is, spots at.In_ok-maps)
    (rw (c.as_slice-2.ensures.value, c.in_ok-maps.ensures.stays.records, c.in_ok-maps.ensures.stays.last)
    at c.create_at.ensures.is)
