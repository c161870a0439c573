-- What a run over a view says of the run over its host.
use Rattle.std.proofs.Common.{◌≡◌, inl, inr, ⊎_elim, ℕ, ◌<◌, ◌≤◌, List, ◌++◌, Option, Some, None, true, refl, sym, ◌∙◌, ap, arith, length}
use Rattle.ldm_host.specs.Seen.{Seen}
use Rattle.ldm_host.specs.Moves.{Rose}
use Rattle.ldm_words.specs.declared.job.Job.{Job}
use Rattle.ldm_words.specs.declared.job.Job.TheVariants.{Disk, Records, Scan, Show, Check, Map, Dump, Scrub, Table, Tables, Try, Edit, One, Init, Sample}
use Rattle.ldm_words.specs.declared.status.Status.{Status}
use Rattle.ldm_words.specs.Jobs.{job_of, HasCount}
use Rattle.ldm_words.proofs.JobLaws.{reading_counts}
use Rattle.ldm_look.specs.Said.{Answer}
use Rattle.ldm_look.specs.Runs.{Answers, Completes, NoFault, Whole, HasImages}
use Rattle.ldm_run.specs.Runs.{OfJob}
use Rattle.ldm_run.specs.Written.{JobDisks}
use Rattle.ldm_past.specs.PastWords.{reads_past, is_read_as}

-- states that say the same
module _ (a b va vb : Seen) (P Q : Answer → Type 0) (status : Status) (first : va.said ≡ a.said) (last : vb.said ≡ b.said) (same : (x : Answer) → P x → Q x) where
  whole_as : (x : Answer) → Whole va vb x status → Whole a b x status
  whole_as x whole = record { status_is = whole.status_is; said = sym last ∙ whole.said ∙ ap (λ (l : List ℕ). l ++ x.0) first }

  pub answers_as : Answers va vb P status → Answers a b Q status
  answers_as answers = record {
    whole = λ has. let w = answers.whole has in (w.0, same w.0 w.1, whole_as w.0 w.2);
    since = (answers.since.0, sym last ∙ answers.since.1 ∙ ap (λ (l : List ℕ). l ++ answers.since.0) first);
    front = ⊎_elim
        (λ none. inl (sym last ∙ none ∙ first))
        (λ front. inr (front.0, same front.0 front.1, (front.2.0, ap (λ (l : List ℕ). l ++ front.0.0) (sym first) ∙ front.2.1 ∙ ap (λ (l : List ℕ). l ++ front.2.0) last)))
        answers.front;
  }

  pub completes_as : Completes va vb P status → Completes a b Q status
  completes_as completes = (completes.0, same completes.0 completes.1, whole_as completes.0 completes.2)

-- a job that can read past damage hands no disk a byte
hands_none : (tells : Type 0) (job : Job) (a b : Seen) (status : Status) → reads_past job ≡ true → JobDisks tells job a b status → b.wrote ≡ a.wrote
hands_none tells (Disk format) a b status reads still = absurd cc
hands_none tells (Records format) a b status reads still = absurd cc
hands_none tells (Scan format) a b status reads still = absurd cc
hands_none tells (Show format) a b status reads still = still.wrote
hands_none tells (Check format) a b status reads still = still.wrote
hands_none tells (Map name first count format) a b status reads still = still.wrote
hands_none tells (Dump name section) a b status reads still = still.wrote
hands_none tells (Scrub name format) a b status reads still = still.wrote
hands_none tells (Table name images) a b status reads still = still.wrote
hands_none tells (Tables images) a b status reads still = still.wrote
hands_none tells (Try format) a b status reads still = absurd cc
hands_none tells (Edit format) a b status reads still = absurd cc
hands_none tells (One command format) a b status reads still = absurd cc
hands_none tells (Init name guid disks) a b status reads still = absurd cc
hands_none tells (Sample seed) a b status reads still = absurd cc

pub reading_hands_none : (tells same : Type 0) (reading : Option (Job × ℕ)) (a b : Seen) (status : Status) → is_read_as reads_past reading ≡ true
    → OfJob reading same (λ job. JobDisks tells job a b status) → b.wrote ≡ a.wrote
reading_hands_none tells same None a b status reads disks = absurd cc
reading_hands_none tells same (Some reading) a b status reads disks = hands_none tells reading.0 a b status reads disks

-- faults that were counted where none was refused
pub no_fault_as : (a b va vb : Seen) → va.disk_faults ≡ a.disk_faults → vb.disk_faults ≡ b.disk_faults → va.talk_faults ≡ a.talk_faults → vb.talk_faults ≡ b.talk_faults
    → NoFault a b → NoFault va vb
no_fault_as a b va vb d1 d2 t1 t2 none = record {
  disk = λ rose. none.disk (rose_as va.disk_faults vb.disk_faults a.disk_faults b.disk_faults d1 d2 rose);
  talk = λ rose. none.talk (rose_as va.talk_faults vb.talk_faults a.talk_faults b.talk_faults t1 t2 rose);
}
  where
    rose_as : (x y p q : ℕ) → x ≡ p → y ≡ q → Rose x y → Rose p q
    rose_as x y p q e f (inl less) = inl (omega arith)
    rose_as x y p q e f (inr last) = inr (omega arith)

-- disks of the same sizes are as many
pub has_images : (reading : Option (Job × ℕ)) (a b : Seen) → b.sizes ≡ a.sizes → HasImages reading a → HasImages reading b
has_images None a b same has = tt
has_images (Some reading) a b same has = ap length same ∙ has

some_of : (job : Job) (n : ℕ) → reads_past job ≡ true → HasCount job n → 1 ≤ n
some_of (Disk format) n reads count = absurd cc
some_of (Records format) n reads count = absurd cc
some_of (Scan format) n reads count = absurd cc
some_of (Show format) n reads count = count.0
some_of (Check format) n reads count = count.0
some_of (Map name first amount format) n reads count = count.0
some_of (Dump name section) n reads count = count.0
some_of (Scrub name format) n reads count = count.0
some_of (Table name images) n reads count = count.0
some_of (Tables images) n reads count = count.0
some_of (Try format) n reads count = absurd cc
some_of (Edit format) n reads count = absurd cc
some_of (One command format) n reads count = absurd cc
some_of (Init name guid disks) n reads count = absurd cc
some_of (Sample seed) n reads count = absurd cc

some_by : (words : List (List ℕ)) (host : Seen) (reading : Option (Job × ℕ)) → job_of words ≡ reading → is_read_as reads_past reading ≡ true → HasImages reading host → 0 < length host.sizes
some_by words host None is reads has = absurd cc
some_by words host (Some reading) is reads has = omega (arith, has, some_of reading.0 reading.1 reads (reading_counts words reading is))

-- a job that can read past damage has an image
pub some_images : (words : List (List ℕ)) (host : Seen) → is_read_as reads_past (job_of words) ≡ true → HasImages (job_of words) host → 0 < length host.sizes
some_images words host reads has = some_by words host (job_of words) refl reads has
