use Rattle.std.proofs.Common.{◌≡◌, ℕ, ◌<◌, take, get_or}
use Rattle.ldm_records.specs.declared.types.Record.{Record}
use Rattle.ldm_records.specs.Plain.{IsRecord}
use Rattle.ldm_records.specs.Views.{plain_of}
use Rattle.ldm_body.specs.Body.{spellings}
use Rattle.ldm_body.proofs.body.spellings.Given as goal

abbrev pub invariant-loop-r : goal.invariant-loop-r
invariant-loop-r l = record {
  spelled : l.list.items ≡ spellings (take l.r-index l.records);
  sound : (k : ℕ) (d : Record) → k < l.r-index → IsRecord (plain_of (get_or l.records k d));
}
