use Rattle.std.proofs.Common.{arith}
use Rattle.ldm_records.proofs.FieldLaws.{len_more, no_field}
use Rattle.ldm_records.proofs.lengths.fields_len.Goals as goal

pub field_len-total-requires : goal.field_len-total-requires
field_len-total-requires c = let more = len_more c.args.fields.now c.loop-field.field-index no_field c.loop-field-test.true in omega arith

pub overflow_add-total : goal.overflow_add-total
overflow_add-total c = let more = len_more c.args.fields.now c.loop-field.field-index no_field c.loop-field-test.true in omega arith

pub loop-field-preserved : goal.loop-field-preserved
loop-field-preserved c = let more = len_more c.args.fields.now c.loop-field.field-index no_field c.loop-field-test.true in omega arith
