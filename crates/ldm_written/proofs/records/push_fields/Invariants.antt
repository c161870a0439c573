use Rattle.std.proofs.Common.{◌≡◌, ◌++◌, take}
use Rattle.ldm_records.specs.Values.{own_values}
use Rattle.ldm_records.specs.FieldViews.{values_of}
use Rattle.ldm_written.proofs.records.push_fields.Given as goal

abbrev pub invariant-loop-field : goal.invariant-loop-field
invariant-loop-field l = l.out.items ≡ l.fn.out.items ++ own_values (values_of (take l.field-index l.fields))
