-- What the program is to answer to a command line: a text and a status.
use Rattle.std.specs.Prelude.{◌≡◌, ℕ, Bool, true, false, List, [], ◌∷◌, codes, Option, Some, None}
use Rattle.ldm_words.specs.declared.job.Format.{Format}
use Rattle.ldm_words.specs.declared.job.Job.{Job}
use Rattle.ldm_words.specs.declared.job.Job.TheVariants.{Disk, Records, Scan, Show, Check, Map, Dump, Scrub, Table, Tables, Try, Edit, One, Init, Sample}
use Rattle.ldm_words.specs.declared.status.Status.TheVariants.{Usage}
use Rattle.ldm_words.specs.Jobs.{job_of}
use Rattle.ldm_copy.specs.declared.found.Found.{Found}
use Rattle.ldm_look.specs.Said.{Answer}
use Rattle.ldm_look.specs.Refusals.{refusal_for}
use Rattle.ldm_look.specs.Looks.{IsFormattedAnswer, IsGroupAnswer, IsLookAnswer}
use Rattle.ldm_run.specs.Streaming.{dump_answer, scrub_answer}
use Rattle.ldm_run.specs.Tabling.{table_answer, tables_answer}
use Rattle.ldm_run.specs.Sample.{IsSampleAnswer}
use Rattle.ldm_run.specs.Scripts.{is_long_script, commands_in, try_answer}
use Rattle.ldm_run.specs.Making.{IsInitAnswer}

-- What is answered to a script: a script that is too long is refused, whatever the images hold.
abbrev pub IsAnswerToScript : Format → Bool → List ℕ → List (List ℕ) → Answer → Type 0
IsAnswerToScript format true script images answer = answer ≡ refusal_for format (codes "script too long") None (codes "script too long")
IsAnswerToScript format false script images answer = IsFormattedAnswer format (try_answer format (commands_in script)) images answer

-- what an answer goes by
pub data Basis : Type 0 where
  -- what a job that looks goes by
  OfLook : Job → Basis
  -- the group that the images hold, and their content
  OfGroup : (List (List ℕ) → Found → Answer) → Basis
  -- such a group, where a refusal of it is said in this format
  OfFormatted : Format → (List (List ℕ) → Found → Answer) → Basis
  -- a script, and then the group
  OfScript : Format → Basis
  -- whether the images can be the disks of a new group, with these GUIDs
  OfEmpty : List ℕ → Basis
  -- no image, but a seed
  OfSeed : ℕ → Basis

abbrev pub basis_of : Job → Basis
basis_of (Disk format) = OfLook (Disk format)
basis_of (Records format) = OfLook (Records format)
basis_of (Scan format) = OfLook (Scan format)
basis_of (Show format) = OfLook (Show format)
basis_of (Check format) = OfLook (Check format)
basis_of (Map name first count format) = OfLook (Map name first count format)
basis_of (Dump name section) = OfGroup (dump_answer name section)
basis_of (Scrub name format) = OfFormatted format (scrub_answer format name)
basis_of (Table name words) = OfGroup (λ images. table_answer name words)
basis_of (Tables words) = OfGroup (λ images. tables_answer words)
basis_of (Try format) = OfScript format
basis_of (Edit format) = OfScript format
basis_of (One command format) = OfFormatted format (λ images. try_answer format (Some command ∷ []))
basis_of (Init name guid disks) = OfEmpty disks
basis_of (Sample seed) = OfSeed seed

-- the answer by that, with this content of the disks and this input
abbrev pub IsAnswerBy : Basis → List (List ℕ) → List ℕ → Answer → Type 0
IsAnswerBy (OfLook job) images input answer = IsLookAnswer job images answer
IsAnswerBy (OfGroup answer_of) images input answer = IsGroupAnswer (answer_of images) images answer
IsAnswerBy (OfFormatted format answer_of) images input answer = IsFormattedAnswer format (answer_of images) images answer
IsAnswerBy (OfScript format) images input answer = IsAnswerToScript format (is_long_script input) input images answer
IsAnswerBy (OfEmpty guids) images input answer = IsInitAnswer guids images answer
IsAnswerBy (OfSeed seed) images input answer = IsSampleAnswer seed answer

-- what a job answers
abbrev pub IsJobAnswer : Job → List (List ℕ) → List ℕ → Answer → Type 0
IsJobAnswer job images input answer = IsAnswerBy (basis_of job) images input answer

abbrev pub IsReadingAnswer : Option (Job × ℕ) → List (List ℕ) → List ℕ → Answer → Type 0
IsReadingAnswer None images input answer = answer ≡ ([], Usage)
IsReadingAnswer (Some reading) images input answer = IsJobAnswer reading.0 images input answer

-- what is answered to these words; there is one answer
abbrev pub IsAnswerTo : List (List ℕ) → List (List ℕ) → List ℕ → Answer → Type 0
IsAnswerTo words images input answer = IsReadingAnswer (job_of words) images input answer
