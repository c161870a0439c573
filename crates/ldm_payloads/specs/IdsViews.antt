-- The two texts of a group where they stand.
use Rattle.std.specs.Prelude.{Option, Some, None}
use Rattle.ldm_payloads.specs.declared.ids_text.IdsText.{IdsText}
use Rattle.ldm_records.specs.Values.{Value, Text, Absent}

abbrev pub first_seen : Option IdsText → Value
first_seen None = Absent
first_seen (Some t) = Text t.first.now

abbrev pub second_seen : Option IdsText → Value
second_seen None = Absent
second_seen (Some t) = Text t.second.now
