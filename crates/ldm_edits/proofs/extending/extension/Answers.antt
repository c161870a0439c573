use Rattle.std.proofs.Common.{◌∙◌, refl}
use Rattle.ldm_edits.specs.Replacing.{added_group}
use Rattle.ldm_edits.proofs.ShownLaws.{layout_shown, other_shape, shape_shown}
use Rattle.ldm_edits.proofs.extending.extension.Goals as goal

pub plan_in-requires-clause-laid_out : goal.plan_in-requires-clause-laid_out
plan_in-requires-clause-laid_out c =
    (let laid = c.requires.volume.sound.laid_out c.args.subject.now.volume.now c.requires.volume.there in (laid.0, layout_shown c.requires.volume.shows ∙ laid.1.layout))

pub lengthen_mirror-requires-clause-shape : goal.lengthen_mirror-requires-clause-shape
lengthen_mirror-requires-clause-shape c = shape_shown c.requires.volume.shows c.in_ok-plan.ensures c.shape.ensures c.in-Mirror.is

pub lengthen-requires-clause-span : goal.lengthen-requires-clause-span
lengthen-requires-clause-span c = shape_shown c.requires.volume.shows c.in_ok-plan.ensures c.shape.ensures c.in-Span.is

pub returns-in-Mirror-clause-is : goal.returns-in-Mirror-clause-is
returns-in-Mirror-clause-is c =
    rw (shape_shown c.requires.volume.shows c.in_ok-plan.ensures c.shape.ensures c.in-Mirror.is) c.lengthen_mirror.ensures.is

pub returns-in-Span-clause-is : goal.returns-in-Span-clause-is
returns-in-Span-clause-is c =
    rw (shape_shown c.requires.volume.shows c.in_ok-plan.ensures c.shape.ensures c.in-Span.is) c.lengthen.ensures.is

pub returns-clause-is : goal.returns-clause-is
returns-clause-is c =
    let group = added_group c.args.added.now c.args.subject.now in
    other_shape group c.args.subject.now.labels.now c.args.pieces.now c.args.subject.now.volume.now _
    (shape_shown c.requires.volume.shows c.in_ok-plan.ensures c.shape.ensures refl) c.in_default.not-Mirror c.in_default.not-Span
