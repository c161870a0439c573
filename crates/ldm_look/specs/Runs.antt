-- How a run of the program ends.
use Rattle.std.specs.Prelude.{◌≡◌, ◌≢◌, ◌⊎◌, ℕ, ◌++◌, length, Option, Some, None}
use Rattle.ldm_host.specs.Seen.{Seen}
use Rattle.ldm_host.specs.Moves.{Rose, Begins, SameInput, Still}
use Rattle.ldm_words.specs.declared.job.Job.{Job}
use Rattle.ldm_words.specs.declared.status.Status.{Status}
use Rattle.ldm_words.specs.declared.status.Status.TheVariants.{Usage, DiskFault, TalkFault}
use Rattle.ldm_look.specs.Said.{Answer, HasAnswer, SaysNothing}

-- the status is the answer's, and since the old state just the answer's text was said
pub record Whole (old new : Seen) (answer : Answer) (status : Status) : Type 0 where
  pub status_is : status ≡ answer.1
  pub said : new.said ≡ old.said ++ answer.0

-- Done and Refused are an answer of these, whole. Whatever the status, what was said is the beginning of the text of one.
pub record Answers (old new : Seen) (IsOne : Answer → Type 0) (status : Status) : Type 0 where
  pub whole : HasAnswer status → (answer : Answer) × IsOne answer × Whole old new answer status
  pub since : Begins old.said new.said
  pub front : (new.said ≡ old.said) ⊎ ((answer : Answer) × IsOne answer × Begins new.said (old.said ++ answer.0))

-- an answer of these came, whole
abbrev pub Completes : Seen → Seen → (Answer → Type 0) → Status → Type 0
Completes old new IsOne status = (answer : Answer) × IsOne answer × Whole old new answer status

-- A fault comes only where its count rose in the run, or stands at its last value.
pub record Causes (old new : Seen) (status : Status) : Type 0 where
  pub disk : status ≡ DiskFault → Rose old.disk_faults new.disk_faults
  pub talk : status ≡ TalkFault → Rose old.talk_faults new.talk_faults

-- no count rose
pub record NoFault (old new : Seen) : Type 0 where
  pub disk : Rose old.disk_faults new.disk_faults → ⊥
  pub talk : Rose old.talk_faults new.talk_faults → ⊥

-- the host has just as many disks as the words name images
abbrev pub HasImages : Option (Job × ℕ) → Seen → Type 0
HasImages None host = Unit {0}
HasImages (Some reading) host = length host.sizes ≡ reading.1

-- How a job ends: with one of these answers, or with a fault that has its cause.
pub record Ends (tells : Type 0) (old new : Seen) (IsOne : Answer → Type 0) (status : Status) : Type 0 where
  pub answers : tells → Answers old new IsOne status
  pub no_usage : status ≢ Usage
  pub causes : Causes old new status

-- What is done where one of these answers is said and nothing else is changed. With some statuses nothing was said.
pub record Says (tells : Type 0) (IsSilent : Status → Type 0) (old new : Seen) (IsOne : Answer → Type 0) (status : Status) : Type 0 where
  pub ends : Ends tells old new IsOne status
  pub silent : IsSilent status → new.said ≡ old.said
  pub still : Still old new
  pub input : SameInput old new

-- The disks are read, and then the answer is said.
abbrev pub OnlyReads : Type 0 → Seen → Seen → (Answer → Type 0) → Status → Type 0
OnlyReads tells old new IsOne status = Says tells SaysNothing old new IsOne status

-- This holds where there is no job that looks, and that of the job where there is one.
abbrev pub OfLook : Option Job → Type 0 → (Job → Type 0) → Type 0
OfLook None Unread Does = Unread
OfLook (Some job) Unread Does = Does job
