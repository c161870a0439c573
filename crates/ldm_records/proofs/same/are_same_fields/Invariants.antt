use Rattle.std.proofs.Common.{◌≡◌, take}
use Rattle.ldm_records.specs.FieldViews.{values_of}
use Rattle.ldm_records.proofs.same.are_same_fields.Given as goal

abbrev pub invariant-loop-i : goal.invariant-loop-i
invariant-loop-i l = values_of (take l.i l.fields) ≡ values_of (take l.i l.others)
