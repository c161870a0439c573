use Rattle.std.proofs.Common.{[], ◌∙◌, ◌++◌, ◌∷◌, List, ap, sym}
use Rattle.ldm_records.specs.declared.types.Record.{Record}
use Rattle.ldm_init.proofs.GroupLaws.{records_more}
use Rattle.ldm_init.proofs.database.records_of.Goals as goal

pub loop-place-preserved : goal.loop-place-preserved
loop-place-preserved c =
    let one = c.in_ok-disk_record.field-0 in
    c.in_ok-push-2.ensures.items ∙ ap (λ (l : List Record). l ++ one ∷ []) c.loop-place.invariant
    ∙ sym (records_more c.args.name.now c.args.guid c.args.disks.now c.loop-place.place one (c.in_ok-disk_record.ensures {u = tt}))
