use Rattle.std.proofs.Common.{◌∙◌, append_assoc}
use Rattle.ldm_written.proofs.SpellLaws.{own_more, short_at}
use Rattle.ldm_records.proofs.FieldLaws.{no_field}
use Rattle.ldm_written.proofs.records.push_fields.Goals as goal

pub loop-field-preserved : goal.loop-field-preserved
loop-field-preserved c =
    let more = own_more c.args.fields.now c.loop-field.field-index no_field c.loop-field-test.true in
    c.in_ok-push_field.ensures ∙ rw c.loop-field.invariant (rw more (append_assoc c.args.out.now.items _ _))

pub push_field-requires : goal.push_field-requires
push_field-requires c = short_at c.args.fields.now c.loop-field.field-index no_field c.requires c.loop-field-test.true
