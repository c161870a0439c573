-- Words of a job with the option `--past-damage`: right behind the job's name, or behind `--json` there. Words that have a reading
-- without the option are read so.
use Rattle.std.specs.Prelude.{ℕ, Bool, true, false, ◌&&◌, List, [], ◌∷◌, codes, bytes_eq, is_some, Option, Some, None, if◌then◌else◌}
use Rattle.ldm_words.specs.declared.job.Format.{Format}
use Rattle.ldm_words.specs.declared.job.Format.TheVariants.{Lines, Json}
use Rattle.ldm_words.specs.declared.job.Job.{Job}
use Rattle.ldm_words.specs.declared.job.Job.TheVariants.{Show, Check, Map, Dump, Scrub, Table, Tables}
use Rattle.ldm_words.specs.Jobs.{job_of}

abbrev pub is_past_option : List ℕ → Bool
is_past_option word = bytes_eq word (codes "--past-damage")

abbrev pub is_json_option : List ℕ → Bool
is_json_option word = bytes_eq word (codes "--json")

-- the jobs that can read past damage
abbrev pub reads_past : Job → Bool
reads_past (Show format) = true
reads_past (Check format) = true
reads_past (Map name first count format) = true
reads_past (Dump name section) = true
reads_past (Scrub name format) = true
reads_past (Table name words) = true
reads_past (Tables words) = true
reads_past job = false

abbrev pub is_json : Format → Bool
is_json Lines = false
is_json (Json paths) = true

-- the answer of the job is JSON
abbrev pub says_json : Job → Bool
says_json (Show format) = is_json format
says_json (Check format) = is_json format
says_json (Map name first count format) = is_json format
says_json (Scrub name format) = is_json format
says_json job = false

-- the words have a reading, of such a job
abbrev pub is_read_as : (Job → Bool) → Option (Job × ℕ) → Bool
is_read_as is_such None = false
is_read_as is_such (Some reading) = is_such reading.0

-- the words, where they have a reading as such a job
abbrev pub words_read_as : (Job → Bool) → List (List ℕ) → Option (List (List ℕ))
words_read_as is_such words = if is_read_as is_such (job_of words) then Some words else None

abbrev pub reads_past_json : Job → Bool
reads_past_json job = reads_past job && says_json job

abbrev pub behind_json : List ℕ → List ℕ → List (List ℕ) → Option (List (List ℕ))
behind_json job first (option ∷ rest) = if is_past_option option then words_read_as reads_past_json (job ∷ first ∷ rest) else None
behind_json job first [] = None

-- the words without the option, where it stands behind the job's name or behind `--json` there
abbrev pub without_option : List (List ℕ) → Option (List (List ℕ))
without_option (job ∷ first ∷ rest) =
    if is_past_option first then words_read_as reads_past (job ∷ rest) else if is_json_option first then behind_json job first rest else None
without_option words = None

-- the words of the job that is to read past damage; nothing where these aren't words with that option
unfoldable pub past_words : List (List ℕ) → Option (List (List ℕ))
past_words words = if is_some (job_of words) then None else without_option words
