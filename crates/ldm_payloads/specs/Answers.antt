-- What reading a payload answers.
use Rattle.std.specs.Prelude.{◌≡◌, ◌≤◌, ℕ, false, List, length, slice_index, Result, Ok, Err}
use Rattle.ldm_records.specs.declared.types.Record.{Record}
use Rattle.ldm_payloads.specs.declared.fault.RecordError.{RecordError}
use Rattle.ldm_payloads.specs.declared.fault.RecordFault.{RecordFault}
use Rattle.ldm_payloads.specs.declared.fault.RecordError.TheVariants as errors
use Rattle.ldm_records.specs.Table.{is_known}

-- the payload has a head, whose type byte is none of the seven
abbrev pub IsUnknown : List ℕ → Type 0
IsUnknown payload = (8 ≤ length payload) × (is_known (slice_index payload 3) ≡ false)

-- this record is the answer, unless memory ran out
abbrev pub AnswersRecord : Result Record RecordError → Record → Type 0
AnswersRecord (Ok s) r = s ≡ r
AnswersRecord (Err errors.NoMemory) r = Unit {0}
AnswersRecord (Err (errors.Fault f)) r = ⊥

-- the payload is refused for this fault, unless memory ran out
abbrev pub AnswersFault : Result Record RecordError → RecordFault → Type 0
AnswersFault (Ok r) fault = ⊥
AnswersFault (Err errors.NoMemory) fault = Unit {0}
AnswersFault (Err (errors.Fault f)) fault = f ≡ fault
