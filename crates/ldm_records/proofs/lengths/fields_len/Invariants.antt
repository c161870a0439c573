use Rattle.std.proofs.Common.{◌≡◌, take}
use Rattle.ldm_records.specs.Values.{values_len}
use Rattle.ldm_records.specs.FieldViews.{values_of}
use Rattle.ldm_records.proofs.lengths.fields_len.Given as goal

abbrev pub invariant-loop-field : goal.invariant-loop-field
invariant-loop-field l = l.total ≡ values_len (values_of (take l.field-index l.fields))
