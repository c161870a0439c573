-- What the calls answer.
use Rattle.std.specs.Prelude.{◌≡◌, List, Result, Ok, Err}
use Rattle.std.specs.Global.{Vec}
use Rattle.ldm_group.specs.Database.{Database}
use Rattle.ldm_edits.specs.declared.error.StepError.{StepError}
use Rattle.ldm_edits.specs.declared.error.StepError.TheVariants as errors
use Rattle.ldm_edits.specs.declared.reply.Refusal.{Refusal}

-- exactly the reason why there is none, or want of memory
abbrev pub RefusesAs : {T : Type 0} → StepError → Result T Refusal → Type 0
RefusesAs (errors.Refused refusal) step = step ≡ Err refusal
RefusesAs errors.NoMemory step = Unit {0}

-- exactly the next group or the reason why there is none, or want of memory
abbrev pub StepsTo : Result Database StepError → Result Database Refusal → Type 0
StepsTo (Ok next) step = step ≡ Ok next
StepsTo (Err error) step = RefusesAs error step

-- exactly that list or the reason why there is none, or want of memory
abbrev pub FindsAs : {T : Type 0} → Result (Vec T) StepError → Result (List T) Refusal → Type 0
FindsAs (Ok found) step = step ≡ Ok found.items
FindsAs (Err error) step = RefusesAs error step
