use Rattle.std.proofs.Common.{◌∙◌, ◌<◌, ◌≡◌, ◌+◌, ◌^◌, ap, sym, arith, length, refl, true, List, is_some}
use Rattle.ldm_edits.proofs.Common.{Component, Database, Wanted}
use Rattle.std.specs.Borrow.{Bor}
use Rattle.ldm_made.specs.Made.{with_children}
use Rattle.ldm_edits.specs.Extended.{len_of}
use Rattle.ldm_edits.specs.Mirroring.{component_holds, MayGrow}
use Rattle.ldm_edits.specs.Replacing.{added_group}
use Rattle.ldm_edits.proofs.AdditionLaws.{top}
use Rattle.ldm_edits.proofs.GrowLaws.{grows, lengthens, shares}
use Rattle.ldm_edits.proofs.LimitLaws.{change_spent}
use Rattle.ldm_edits.proofs.ShownMirror.{components_shown, found_many, made_shown, mirror_may, mirror_placed}
use Rattle.ldm_edits.proofs.ShownMirror.{mirror_spots_refused, mirror_wanted_refused}
use Rattle.ldm_edits.proofs.SpotsTaken.{longer_replaces}
use Rattle.ldm_edits.proofs.mirroring.lengthen_mirror.Goals.{After-as_slice}
use Rattle.ldm_edits.proofs.mirroring.lengthen_mirror.Goals as goal
use Rattle.ldm_label.proofs.ReadLaws.{handed_on}
use Rattle.ldm_group.proofs.ListLaws.{all_from_map}

abbrev group : After-as_slice → Database
group c = added_group c.args.added.now c.args.subject.now

-- the mirror may grow by what was found
may : (c : After-as_slice) → MayGrow (group c) c.args.subject.now.labels.now c.args.subject.now.volume.now
    (len_of c.in_ok-asked.asked.items) c.in_ok-asked.asked.items c.in_ok-maps.spots.items
may c =
    let volume = c.requires.volume in
    let many = found_many c.if-pieces-components.false c.as_slice-components.ensures.value c.in_ok-found.ensures in
    let all = ap (λ (l : List Wanted). length l) c.as_slice-wanted.ensures.value in
    let same = c.in_ok-maps.ensures.stays.max_id ∙ top volume.are in
    let some = c.requires.limits.some in
    let few = c.in-Some.ensures.1 in
    let each = c.in_ok-asked.ensures.one_each ∙ sym c.if-pieces-components.false in
    mirror_may c.args.subject.now.own.now (group c) c.args.subject.now.labels.now _ c.args.pieces.now
    volume.shows c.is_some.ensures c.if-is_some.false many _ c.in_ok-asked.ensures.is c.as_slice-wanted.ensures.value
    _ c.in_ok-maps.ensures.is.0 volume.there c.requires.shape c.requires.held
    c.in_ok-asked.ensures.even (omega arith) each volume.are.low (omega arith)

pub returns-in_err-asked-clause-is : goal.returns-in_err-asked-clause-is
returns-in_err-asked-clause-is c =
    let many = found_many c.if-pieces-components.false c.as_slice-components.ensures.value c.in_ok-found.ensures in
    rw (handed_on c.from_residual-in_err-asked.result c.in_err-asked.field-0.0 c.from_residual-in_err-asked.ensures.1)
    (mirror_wanted_refused c.args.subject.now.own.now _ _ _ _ c.requires.volume.shows c.is_some.ensures c.if-is_some.false many
    _ c.in_err-asked.ensures.is)

pub returns-in_err-maps-clause-is : goal.returns-in_err-maps-clause-is
returns-in_err-maps-clause-is c =
    let many = found_many c.if-pieces-components.false c.as_slice-components.ensures.value c.in_ok-found.ensures in
    rw (handed_on c.from_residual-in_err-maps.result c.in_err-maps.field-0.0 c.from_residual-in_err-maps.ensures.1)
    (mirror_spots_refused c.args.subject.now.own.now _ _ _ _ c.requires.volume.shows c.is_some.ensures c.if-is_some.false many
    _ c.in_ok-asked.ensures.is c.as_slice-wanted.ensures.value _ c.in_err-maps.ensures.is)

pub returns-in_default-clause-is : goal.returns-in_default-clause-is
returns-in_default-clause-is c =
    let many = found_many c.if-pieces-components.false c.as_slice-components.ensures.value c.in_ok-found.ensures in
    let all = ap (λ (l : List Wanted). length l) c.as_slice-wanted.ensures.value in
    let same = c.in_ok-maps.ensures.stays.max_id ∙ top c.requires.volume.are in
    let more = c.in_default.ensures in
    mirror_placed c.args.subject.now.own.now _ _ _ _ c.requires.volume.shows c.is_some.ensures c.if-is_some.false many
    _ c.in_ok-asked.ensures.is c.as_slice-wanted.ensures.value _ c.in_ok-maps.ensures.is.0
    ∙ change_spent _ _ _ _ (omega arith)

pub grown-requires : goal.grown-requires
grown-requires c =
    let volume = c.requires.volume in
    let all = ap (λ (l : List Wanted). length l) c.as_slice-wanted.ensures.value in
    let same = c.in_ok-maps.ensures.stays.max_id ∙ top volume.are in
    let each = c.in_ok-asked.ensures.one_each in
    let found = rw (← c.as_slice-components.ensures.value) at c.in_ok-found.ensures in
    let g = rw (← c.as_slice.ensures.value, ← c.as_slice-wanted.ensures.value) at (grows volume.are.rising volume.sound (may c)) in
    let long = g.many in
    let first = c.in-Some.ensures.0 in
    let few = c.in-Some.ensures.1 in
    let now : Bor Component → Component = λ x. x.now in
    record {
      volume_there = rw (c.requires.held, c.len_of.ensures) g.volume_there;
      few = all_from_map now (λ (x : Component). x.children + 1 < 2 ^ 64) _ (rw (found, components_shown volume.shows) g.few);
      made = all_from_map now (λ (x : Component). is_some (with_children x (x.children + 1)) ≡ true) _
          (rw (found, components_shown volume.shows) g.made);
      one_each = omega arith;
      ids = omega arith;
      low = all_from_map now (λ (x : Component). component_holds c.args.subject.now.own.now.records x < 2 ^ 64) _
          (rw found c.in_ok-asked.ensures.even.low);
    }

pub returns-clause-is : goal.returns-clause-is
returns-clause-is c =
    let volume = c.requires.volume in
    let many = found_many c.if-pieces-components.false c.as_slice-components.ensures.value c.in_ok-found.ensures in
    let all = ap (λ (l : List Wanted). length l) c.as_slice-wanted.ensures.value in
    let same = c.in_ok-maps.ensures.stays.max_id ∙ top volume.are in
    let few = c.in-Some.ensures.1 in
    let may = may (goal.at.returns-clause-is c).After-as_slice in
    let found = rw (← c.as_slice-components.ensures.value) at c.in_ok-found.ensures in
    let made = rw (
      found,
      components_shown volume.shows,
      c.as_slice.ensures.value,
      c.len_of.ensures,
      c.as_slice-wanted.ensures.value,
      c.in-Some.ensures.0,
      same,
      c.requires.held,
    ) at c.in_ok-made.ensures
    ∙ made_shown volume.shows _ _ _ in (
      rw (made, c.as_slice-wanted.ensures.value)
          (mirror_placed c.args.subject.now.own.now _ _ _ _ volume.shows c.is_some.ensures c.if-is_some.false many
          _ c.in_ok-asked.ensures.is c.as_slice-wanted.ensures.value _ c.in_ok-maps.ensures.is.0),
      longer_replaces _ c.args.subject.now.db.now.records c.args.added.now.records.items _ refl volume.are.rising
          (lengthens volume.are.rising volume.sound may) (shares volume.are.rising volume.sound may).taken_are
          refl made (λ q. refl) (λ r. refl) (omega arith) c.in_ok-maps.ensures.is.1,
    )
