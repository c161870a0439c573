-- What a reader returned is what reading gives, unless memory ran out.
use Rattle.std.specs.Prelude.{◌≡◌, Option, Some, None, Result, Ok, Err}
use Rattle.ldm_payloads.specs.declared.fault.RecordError.{RecordError}
use Rattle.ldm_payloads.specs.declared.fault.RecordError.TheVariants as errors
use Rattle.ldm_payloads.specs.declared.fault.RecordFault.TheVariants as faults

abbrev pub Fails : {Y : Type 0} → RecordError → Option Y → Type 0
Fails errors.NoMemory read = Unit {0}
Fails (errors.Fault faults.Malformed) read = read ≡ None
Fails (errors.Fault (faults.UnknownType t)) read = ⊥

abbrev pub Gives : {X Y : Type 0} → (X → Y) → Result X RecordError → Option Y → Type 0
Gives view (Ok x) read = read ≡ Some (view x)
Gives view (Err e) read = Fails e read
