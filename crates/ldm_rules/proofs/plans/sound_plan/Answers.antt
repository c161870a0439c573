use Rattle.std.proofs.Common.{arith, Option, IsSome, refl, sym, subst}
use Rattle.ldm_records.specs.declared.types.Volume.{Volume}
use Rattle.ldm_layout.specs.Answers.{PlansAs}
use Rattle.ldm_layout.specs.Volumes.{layout_of}
use Rattle.ldm_rules.proofs.SoundLaws.{of_volume, planned, planned_size, no_fault}
use Rattle.ldm_rules.proofs.plans.sound_plan.Goals as goal

pub plan-requires-clause-there : goal.plan-requires-clause-there
plan-requires-clause-there c = subst (λ (o : Option Volume). IsSome o) (sym c.requires.again) refl

pub plan-requires-clause-ends : goal.plan-requires-clause-ends
plan-requires-clause-ends c k d h of_volume = c.requires.sound.ends k d h

pub unreachable-requires : goal.unreachable-requires
unreachable-requires c =
    let records = c.args.db.now.records in
    let volume = c.args.volume.now in
    no_fault records volume c.plan.result c.in-Err-Fault.field-0 c.in-Err-Fault.field-0-0 c.requires.sound.laid_out c.requires.there
    (of_volume (λ w. PlansAs c.plan.result (layout_of records w)) records volume c.requires.again c.plan.ensures.is) c.in-Err-Fault.is c.in-Err-Fault.field-0-is

pub returns-in-Ok-clause-is : goal.returns-in-Ok-clause-is
returns-in-Ok-clause-is c = grind (arith, planned, of_volume)

pub returns-in-Ok-clause-size : goal.returns-in-Ok-clause-size
returns-in-Ok-clause-size c = planned_size c.args.db.now.records c.args.volume.now c.plan.result c.in-Ok.plan c.requires.again c.plan.ensures.size c.in-Ok.is
