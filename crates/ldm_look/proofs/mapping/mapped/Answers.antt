use Rattle.std.proofs.Common.{◌≡◌, ◌+◌, ◌≤◌, ℕ, Option, Some, ap, sym, ◌∙◌, subst, rules}
use Rattle.ldm_records.specs.declared.types.Record.{Record}
use Rattle.ldm_records.specs.declared.types.Record.TheVariants as kinds
use Rattle.ldm_group.specs.Looks.{by_id, volume_in}
use Rattle.ldm_look.proofs.AnswerLaws.{range_fits}
use Rattle.ldm_look.proofs.mapping.mapped.Goals as goal

pub sound_plan-requires-clause-again : goal.sound_plan-requires-clause-again
sound_plan-requires-clause-again c =
    let volume = c.in-Some.volume.now in
    let again : by_id 3 volume.head.id c.args.found.now.db.records ≡ Some (kinds.Volume volume) = search rules in
    ap (λ (o : Option Record). volume_in o) again

pub said_sectors-requires : goal.said_sectors-requires
said_sectors-requires c =
    subst (λ (n : ℕ). c.args.first + c.args.count ≤ n) (sym c.in_ok-plan.ensures.size)
    (range_fits c.in-Some.volume.now.size c.args.first c.args.count (sym c.is_bad_range.ensures ∙ c.if-is_bad_range.false))
