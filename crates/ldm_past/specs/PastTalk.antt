-- What a job past damage leaves of the talk. It is what the job leaves otherwise.
use Rattle.std.specs.Prelude.{ℕ, Option}
use Rattle.ldm_host.specs.Seen.{Seen}
use Rattle.ldm_words.specs.declared.job.Job.{Job}
use Rattle.ldm_words.specs.declared.status.Status.{Status}
use Rattle.ldm_run.specs.Kinds.{job_kind, JobTalk, SaysWhole, BreaksOff}
use Rattle.ldm_run.specs.Runs.{OfJob}

-- with a fault nothing more is said, but by a job that says its answer while the disks are read on
abbrev pub TalksPast : Type 0 → Option (Job × ℕ) → Seen → Seen → Status → Type 0
TalksPast talks reading old new status = OfJob reading (Unit {0}) (λ job. JobTalk talks (job_kind job) old new status)

-- where a disk or memory failed, what was said is whole sectors of a volume, and whole lines of all else
abbrev pub SaysWholePast : Option (Job × ℕ) → Seen → Seen → Status → Type 0
SaysWholePast reading old new status = BreaksOff status → OfJob reading (Unit {0}) (λ job. SaysWhole job old new)
