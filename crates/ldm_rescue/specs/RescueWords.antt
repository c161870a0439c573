-- Words of a rescue: those of a `dump`, with `--rescue` right behind the job's name. Words that have a reading without the option are
-- read so.
use Rattle.std.specs.Prelude.{ℕ, Bool, List, ◌∷◌, codes, bytes_eq, is_some, Option, Some, None, if◌then◌else◌}
use Rattle.ldm_words.specs.declared.job.Job.{Job}
use Rattle.ldm_words.specs.declared.job.Job.TheVariants.{Dump}
use Rattle.ldm_words.specs.Jobs.{job_of}
use Rattle.ldm_rescue.specs.declared.words.RescueWords.{RescueWords}

abbrev pub is_rescue_option : List ℕ → Bool
is_rescue_option word = bytes_eq word (codes "--rescue")

-- what a dump asks for, off so many images
abbrev pub dump_words : Job → ℕ → Option RescueWords
dump_words (Dump name section) images = Some (record { name = name; section = section; images = images })
dump_words job images = None

abbrev pub read_dump : Option (Job × ℕ) → Option RescueWords
read_dump None = None
read_dump (Some reading) = dump_words reading.0 reading.1

-- what the words ask for without the option, where it stands behind the job's name
abbrev pub asked_without_option : List (List ℕ) → Option RescueWords
asked_without_option (job ∷ option ∷ behind) = if is_rescue_option option then read_dump (job_of (job ∷ behind)) else None
asked_without_option words = None

-- what is asked for; nothing where these aren't words of a rescue
unfoldable pub rescue_words : List (List ℕ) → Option RescueWords
rescue_words words = if is_some (job_of words) then None else asked_without_option words
