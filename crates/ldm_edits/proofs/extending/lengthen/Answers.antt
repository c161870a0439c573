use Rattle.std.proofs.Common.{◌∙◌, arith, refl}
use Rattle.ldm_edits.proofs.Common.{Database}
use Rattle.ldm_edits.specs.Extending.{MayExtend}
use Rattle.ldm_edits.specs.Replacing.{added_group}
use Rattle.ldm_edits.proofs.AdditionLaws.{top}
use Rattle.ldm_edits.proofs.LimitLaws.{change_spent}
use Rattle.ldm_edits.proofs.Longer.{lengthens, makes_longer, spots_are}
use Rattle.ldm_edits.proofs.ShownLaws.{longer_next, longer_placed, longer_refused, longer_unplaced, may_extend}
use Rattle.ldm_edits.proofs.SpotsTaken.{longer_replaces}
use Rattle.ldm_edits.proofs.extending.lengthen.Goals.{After-as_slice-2}
use Rattle.ldm_edits.proofs.extending.lengthen.Goals as goal
use Rattle.ldm_label.proofs.ReadLaws.{handed_on}

abbrev group : After-as_slice-2 → Database
group c = added_group c.args.added.now c.args.subject.now

-- the span may be extended by what was found
may : (c : After-as_slice-2) → MayExtend (group c) c.args.subject.now.labels.now c.args.subject.now.volume.now
    c.in-Some.component.now c.in_ok-wanted.wanted.items c.in_ok-maps.spots.items
may c =
    let volume = c.requires.volume in
    let fresh = c.len-fresh.ensures ∙ c.in_ok-wanted.wanted.ok.0 in
    let few = c.in-Some-first_new_id.ensures.1 in
    let same = c.in_ok-maps.ensures.stays.max_id ∙ top volume.are in
    may_extend c.args.subject.now.own.now (group c) _ c.args.pieces.now volume.shows c.requires.span c.is_some.ensures c.if-is_some.false
    _ c.in_ok-wanted.ensures.is _ c.in-Some.ensures c.as_slice.ensures.value _ c.in_ok-maps.ensures.is.0
    volume.there (omega arith)

pub returns-in_err-wanted-clause-is : goal.returns-in_err-wanted-clause-is
returns-in_err-wanted-clause-is c =
    rw (handed_on c.from_residual.result c.in_err-wanted.field-0.0 c.from_residual.ensures.1)
    (longer_refused c.args.subject.now.own.now _ _ _ c.requires.volume.shows c.requires.span c.is_some.ensures c.if-is_some.false
    _ c.in_err-wanted.ensures.is)

pub returns-in_default-clause-is : goal.returns-in_default-clause-is
returns-in_default-clause-is c =
    longer_next c.args.subject.now.own.now _ _ _ c.requires.volume.shows c.requires.span c.is_some.ensures c.if-is_some.false
    _ c.in_ok-wanted.ensures.is _ c.in_default.ensures

pub returns-in_err-maps-clause-is : goal.returns-in_err-maps-clause-is
returns-in_err-maps-clause-is c =
    rw (handed_on c.from_residual-in_err-maps.result c.in_err-maps.field-0.0 c.from_residual-in_err-maps.ensures.1)
    (longer_unplaced c.args.subject.now.own.now _ _ _ c.requires.volume.shows c.requires.span c.is_some.ensures c.if-is_some.false
    _ c.in_ok-wanted.ensures.is _ c.in-Some.ensures c.as_slice.ensures.value _ c.in_err-maps.ensures.is)

pub returns-in_default-first_new_id-clause-is : goal.returns-in_default-first_new_id-clause-is
returns-in_default-first_new_id-clause-is c =
    let fresh = c.len-fresh.ensures ∙ c.in_ok-wanted.wanted.ok.0 in
    let more = c.in_default-first_new_id.ensures in
    let same = c.in_ok-maps.ensures.stays.max_id ∙ top c.requires.volume.are in
    longer_placed c.args.subject.now.own.now _ _ _ c.requires.volume.shows c.requires.span c.is_some.ensures c.if-is_some.false
    _ c.in_ok-wanted.ensures.is _ c.in-Some.ensures c.as_slice.ensures.value _ c.in_ok-maps.ensures.is.0
    ∙ change_spent _ _ _ _ (omega arith)

pub lengthened-requires : goal.lengthened-requires
lengthened-requires c =
    let volume = c.requires.volume in
    let first = c.in-Some-first_new_id.ensures.0 in
    let same = c.in_ok-maps.ensures.stays.max_id ∙ top volume.are in
    let makes = rw (← c.as_slice-2.ensures.value, ← c.requires.held) at (makes_longer volume.are.rising volume.sound (may c)) in
    record {
      size = makes.size_low;
      children = makes.children_low;
      volume_there = makes.volume_there;
      component_there = makes.component_there;
      ids = (let most = makes.ids_low in omega arith);
    }

pub returns-clause-is : goal.returns-clause-is
returns-clause-is c =
    let volume = c.requires.volume in
    let fresh = c.len-fresh.ensures ∙ c.in_ok-wanted.wanted.ok.0 in
    let id = c.in-Some-first_new_id.ensures in
    let few = id.1 in
    let same = c.in_ok-maps.ensures.stays.max_id ∙ top volume.are in
    let may = may (goal.at.returns-clause-is c).After-as_slice-2 in
    let made = rw (c.as_slice-2.ensures.value, id.0, same, c.requires.held) at c.in_ok-made.ensures in (
      rw (made, fresh) (longer_placed c.args.subject.now.own.now _ _ _ volume.shows c.requires.span c.is_some.ensures c.if-is_some.false
          _ c.in_ok-wanted.ensures.is _ c.in-Some.ensures c.as_slice.ensures.value _ c.in_ok-maps.ensures.is.0),
      longer_replaces _ c.args.subject.now.db.now.records c.args.added.now.records.items _ refl volume.are.rising
          (lengthens volume.are.rising volume.sound may) (spots_are volume.are.rising volume.sound may)
          refl made (λ q. refl) (λ r. refl) (omega arith) c.in_ok-maps.ensures.is.1,
    )
