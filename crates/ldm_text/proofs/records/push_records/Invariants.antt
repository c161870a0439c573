use Rattle.std.proofs.Common.{◌≡◌, ◌++◌, take}
use Rattle.std.specs.Prelude.{flat_map}
use Rattle.ldm_text.specs.Records.{text_of_record}
use Rattle.ldm_text.proofs.records.push_records.Given as goal

abbrev pub invariant-loop-r : goal.invariant-loop-r
invariant-loop-r l = l.text ≡ l.fn.text ++ flat_map text_of_record (take l.r-index l.records)
