-- A record as the code lists it: its fields, padded up with absent ones.
use Rattle.std.specs.Prelude.{◌-◌, List, ◌++◌, length, replicate}
use Rattle.ldm_records.specs.declared.outline.Outline.{Outline}
use Rattle.ldm_records.specs.Values.{Value, Absent}
use Rattle.ldm_records.specs.FieldViews.{values_of}
use Rattle.ldm_records.specs.Plain.{Plain, made}

-- fifteen fields, where there were fewer
abbrev pub padded : List Value → List Value
padded xs = xs ++ replicate (15 - length xs) Absent

abbrev pub filled_plain : Plain → Plain
filled_plain p = record p { fields = padded p.fields }

abbrev pub listed : Outline → Plain
listed o = made o.head.now.mark o.head.now.flags o.kind (values_of o.fields, o.tail.now)
