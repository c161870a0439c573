-- What a reader of a record or of a whole payload returned is what reading gives, unless memory ran out.
use Rattle.std.specs.Prelude.{◌≡◌, ◌≤◌, ℕ, true, false, List, length, slice_index, Option, Some, None, Result, Ok, Err}
use Rattle.ldm_records.specs.declared.types.Record.{Record}
use Rattle.ldm_payloads.specs.declared.fault.RecordError.{RecordError}
use Rattle.ldm_payloads.specs.declared.fault.RecordError.TheVariants as errors
use Rattle.ldm_payloads.specs.declared.fault.RecordFault.TheVariants as faults
use Rattle.ldm_records.specs.Table.{is_known}
use Rattle.ldm_records.specs.Plain.{Plain}
use Rattle.ldm_records.specs.Views.{plain_of}

-- the record of this type; a type byte that is none of the seven is no record's
abbrev pub GivesTyped : ℕ → Result Record RecordError → Option Plain → Type 0
GivesTyped type (Ok r) read = read ≡ Some (plain_of r)
GivesTyped type (Err errors.NoMemory) read = Unit {0}
GivesTyped type (Err (errors.Fault faults.Malformed)) read = (read ≡ None) × (is_known type ≡ true)
GivesTyped type (Err (errors.Fault (faults.UnknownType t))) read = (t ≡ type) × (is_known type ≡ false)

-- what was returned of a whole payload, which may be too short for a type byte
abbrev pub GivesWhole : List ℕ → Result Record RecordError → Option Plain → Type 0
GivesWhole payload (Ok r) read = read ≡ Some (plain_of r)
GivesWhole payload (Err errors.NoMemory) read = Unit {0}
GivesWhole payload (Err (errors.Fault faults.Malformed)) read = (read ≡ None) × (8 ≤ length payload → is_known (slice_index payload 3) ≡ true)
GivesWhole payload (Err (errors.Fault (faults.UnknownType t))) read = (8 ≤ length payload) × (t ≡ slice_index payload 3) × (is_known t ≡ false)
