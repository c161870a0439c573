use Rattle.ldm_records.proofs.FieldLaws.{no_field}
use Rattle.ldm_records.proofs.SameLaws.{differ_at}
use Rattle.ldm_records.proofs.same.are_same_fields.Goals as goal

pub returns-then-not-is_same_field : goal.returns-then-not-is_same_field
returns-then-not-is_same_field c = (
  λ e. absurd cc,
  differ_at c.args.fields.now c.args.others.now c.loop-i.i no_field c.loop-i-test.true c.if-fields-others.false c.if-not-is_same_field.ensures.1,
)
