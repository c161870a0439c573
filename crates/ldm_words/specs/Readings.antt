-- What reading words answers.
use Rattle.std.specs.Prelude.{◌≡◌, Option, Some, None, Result, Ok, Err}
use Rattle.ldm_words.specs.declared.job.WordsError.{WordsError}
use Rattle.ldm_words.specs.declared.job.WordsError.TheVariants.{Usage, NoMemory}

-- the reading, or Usage exactly where there is none, or want of memory
abbrev pub ReadsWords : {X : Type 0} → Result X WordsError → Option X → Type 0
ReadsWords (Ok x) reading = reading ≡ Some x
ReadsWords (Err Usage) reading = reading ≡ None
ReadsWords (Err NoMemory) reading = Unit {0}
