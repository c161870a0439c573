-- The borrowed fields of the code, seen as values.
use Rattle.std.specs.Prelude.{List, map}
use Rattle.ldm_records.specs.declared.field.Field.{Field}
use Rattle.ldm_records.specs.declared.field.Field.TheVariants as fields
use Rattle.ldm_records.specs.Values as values

abbrev pub value_of : Field → values.Value
value_of (fields.Fixed bytes) = values.Fixed bytes.now
value_of (fields.Wide v) = values.Wide 8 v
value_of (fields.Wide16 v) = values.Wide 16 v
value_of (fields.Guid v) = values.GuidText v
value_of (fields.Number v) = values.Number v
value_of (fields.Text t) = values.Text t.now
value_of fields.Absent = values.Absent

abbrev pub values_of : List Field → List values.Value
values_of fs = map value_of fs
