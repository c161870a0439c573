use Rattle.std.proofs.Common.{arith, ◌≡◌, ℕ, true, Some, Result, rules, sym, subst}
use Rattle.std.specs.List.{All}
use Rattle.ldm_layout.proofs.VolumeLaws.{extents_end, plan_size, layout_is, lists_end}
use Rattle.ldm_layout.specs.Answers.{PlansAs}
use Rattle.ldm_layout.specs.Grouped.{IsListsOf}
use Rattle.ldm_places.specs.Layouts.{Layout}
use Rattle.ldm_group.specs.Partitions.{EndsInRange}
use Rattle.ldm_layout.specs.Parts.{is_partition_of}
use Rattle.ldm_layout.specs.Volumes.{layout_of, volume_with}
use Rattle.ldm_places.specs.declared.shape.LayoutFault.{LayoutFault}
use Rattle.ldm_layout.proofs.planning.plan.Goals as goal
use Rattle.ldm_layout.proofs.planning.plan.Goals.{After-drop-parts-inside-in-Some}

pub plan_of-requires : goal.plan_of-requires
plan_of-requires c =
    let records = c.args.db.now.records in
    let lists : IsListsOf c.in_ok-parts.parts records = search rules in
    let id : c.in-Some.volume.now.head.id ≡ c.args.volume = search rules in
    lists_end c.in_ok-parts.parts records c.in-Some.volume.now.head.id lists
    (extents_end records c.in-Some.volume.now.head.id (subst (λ (n : ℕ). All (λ r. is_partition_of n records r ≡ true → EndsInRange r) records) (sym id) c.requires.ends))

-- what plan_of answers is of the volume
planned : (c : After-drop-parts-inside-in-Some) → PlansAs c.plan_of.result (layout_of c.args.db.now.records c.in-Some.volume.now)
planned c =
    let records = c.args.db.now.records in
    let lists : IsListsOf c.in_ok-parts.parts records = search rules in
    subst (λ (l : Result Layout LayoutFault). PlansAs c.plan_of.result l) (layout_is c.in_ok-parts.parts records c.in-Some.volume.now lists) c.plan_of.ensures

pub returns-in-Some-clause-is : goal.returns-in-Some-clause-is
returns-in-Some-clause-is c = grind (arith, planned)

pub returns-in-Some-clause-size : goal.returns-in-Some-clause-size
returns-in-Some-clause-size c =
    let records = c.args.db.now.records in
    let found : volume_with c.args.volume records ≡ Some c.in-Some.volume.now = search rules in
    plan_size records c.in-Some.volume.now (volume_with c.args.volume records) c.plan_of.result found (planned c)
