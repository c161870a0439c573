-- What is answered to words, which is one answer, and what that of map is made of.
use Rattle.std.proofs.Common.{◌≡◌, ◌≢◌, ℕ, ◌+◌, ◌≤◌, ◌==◌, ◌||◌, ◌↔◌, nat_lt, Bool, false, List, [], refl, subst, Option, Some, None, Result, Ok, Err, ap, sym, ◌∙◌}
use Rattle.std.proofs.lemmas.Bool.{ltb-false}
use Rattle.std.proofs.lemmas.List.{append-nil}
use Rattle.ldm_host.specs.Seen.{Seen, image}
use Rattle.ldm_label.specs.declared.Label.{Label}
use Rattle.ldm_label.specs.declared.LabelFault.{LabelFault}
use Rattle.ldm_label.specs.LabelOf.{label_of}
use Rattle.ldm_copy.specs.Copy.{config_area}
use Rattle.ldm_copy.proofs.OneCopy.{one_copy}
use Rattle.ldm_words.specs.declared.job.Job.{Job}
use Rattle.ldm_words.specs.declared.job.Job.TheVariants.{Disk, Records, Scan, Show, Check, Map}
use Rattle.ldm_words.specs.declared.job.Format.{Format}
use Rattle.ldm_words.specs.declared.status.Status.{Status}
use Rattle.ldm_words.specs.declared.status.Status.TheVariants.{Usage, NoMemory}
use Rattle.ldm_words.specs.Jobs.{job_of}
use Rattle.ldm_copy.specs.declared.found.Found.{Found}
use Rattle.ldm_found.proofs.GroupLaws.{one_group}
use Rattle.ldm_look.specs.Said.{Answer, IsUnread}
use Rattle.ldm_look.specs.Mapping.{is_bad_range, map_answer}
use Rattle.ldm_look.specs.Looks.{copy_answer, group_answer, formatted_answer, show_answer, check_answer, scan_answer, look_of, IsRecordsAnswer, IsGroupAnswer, IsFormattedAnswer, IsScanAnswer, IsLookAnswer, IsAnswerOf, IsLookAt}
use Rattle.ldm_look.specs.Runs.{Completes, NoFault, OfLook, OnlyReads}
use Rattle.ldm_look.specs.declared.scanned.Scanned.{Scanned}
use Rattle.ldm_look.proofs.ScanLaws.{one_scanned}
use Rattle.ldm_look.proofs.EndLaws.{complete, unread_is}

-- ---- What `map` is asked.

-- the answer of a name is that of the same name
pub same_name : (format : Format) (name other : List ℕ) (first count : ℕ) (found : Found) (answer : Answer) → name ≡ other → answer ≡ map_answer format name first count found
    → answer ≡ map_answer format other first count found
same_name format name other first count found answer same is = subst (λ (n : List ℕ). answer ≡ map_answer format n first count found) same is

-- a range that is not bad lies in the volume
pub range_fits : (size first count : ℕ) → is_bad_range size first count ≡ false → first + count ≤ size
range_fits size first count h = go (count == 0) (nat_lt 4096 count) (nat_lt size (first + count)) refl h
  where
    go : (a b c : Bool) → nat_lt size (first + count) ≡ c → (a || (b || c)) ≡ false → first + count ≤ size
    go false false false e f = ltb-false size (first + count) e
    go a b c e f = absurd cc

-- ---- There is one answer to the words.

one_records : (format : Format) (label : Result Label LabelFault) (bytes : List ℕ) (a b : Answer) → IsRecordsAnswer format label bytes a → IsRecordsAnswer format label bytes b → a ≡ b
one_records format (Ok label) bytes a b x y = x.2 ∙ ap (copy_answer format) (one_copy (config_area label bytes) label.area_sectors x.0 y.0 x.1 y.1) ∙ sym y.2
one_records format (Err fault) bytes a b x y = x ∙ sym y

pub one_of_group : (answer_of : Found → Answer) (images : List (List ℕ)) (a b : Answer) → IsGroupAnswer answer_of images a → IsGroupAnswer answer_of images b → a ≡ b
one_of_group answer_of images a b x y = x.2 ∙ ap (group_answer answer_of) (one_group images x.0 y.0 x.1 y.1) ∙ sym y.2

pub one_formatted : (format : Format) (answer_of : Found → Answer) (images : List (List ℕ)) (a b : Answer) → IsFormattedAnswer format answer_of images a → IsFormattedAnswer format answer_of images b → a ≡ b
one_formatted format answer_of images a b x y = x.2 ∙ ap (formatted_answer format answer_of) (one_group images x.0 y.0 x.1 y.1) ∙ sym y.2

one_scan : (answer_of : List Scanned → Answer) (images : List (List ℕ)) (a b : Answer) → IsScanAnswer answer_of images a → IsScanAnswer answer_of images b → a ≡ b
one_scan answer_of images a b x y = x.2 ∙ ap answer_of (one_scanned images x.0 y.0 x.1 y.1) ∙ sym y.2

pub one_of_look : (job : Job) (images : List (List ℕ)) (a b : Answer) → IsLookAnswer job images a → IsLookAnswer job images b → a ≡ b
one_of_look (Disk format) images a b x y = x ∙ sym y
one_of_look (Records format) images a b x y = one_records format (label_of (image images 0)) (image images 0) a b x y
one_of_look (Scan format) images a b x y = one_scan (scan_answer format) images a b x y
one_of_look (Show format) images a b x y = one_formatted format (show_answer format) images a b x y
one_of_look (Check format) images a b x y = one_formatted format (check_answer format images) images a b x y
one_of_look (Map name first count format) images a b x y = one_formatted format (map_answer format name first count) images a b x y
one_of_look other images a b x y = absurd x

one_of : (job : Option Job) (images : List (List ℕ)) (a b : Answer) → IsAnswerOf job images a → IsAnswerOf job images b → a ≡ b
one_of None images a b x y = x ∙ sym y
one_of (Some job) images a b x y = one_of_look job images a b x y

pub one_look : (words images : List (List ℕ)) (a b : Answer) → IsLookAt words images a → IsLookAt words images b → a ≡ b
one_look words images a b x y = one_of (look_of (job_of words)) images a b x y

-- ---- How words are answered, by what was done of their job.

module _ (tells : Type 0) {A : Type 0} (seen : A → Seen) (old new : A) (status : Status) where
  -- What is done of a job, or of words.
  abbrev pub IsDone : Option Job → Type 0
  IsDone job = OfLook job (IsUnread status × (new ≡ old)) (λ look. OnlyReads tells (seen old) (seen new) (IsLookAnswer look (seen old).content) status)

  pub usage_is : (job : Option Job) → IsDone job → status ≢ NoMemory → (status ≡ Usage) ↔ (job ≡ None)
  usage_is None done memory = (λ is. refl, λ none. (unread_is status done.0).is_usage memory)
  usage_is (Some job) done memory = (λ is. absurd (done.ends.no_usage is), λ none. absurd cc)

  pub reads_of : (job : Option Job) → IsDone job → OfLook job (new ≡ old) (λ look. OnlyReads tells (seen old) (seen new) (IsLookAnswer look (seen old).content) status)
  reads_of None done = done.1
  reads_of (Some job) done = done

  usage_completes : (job : Option Job) → IsDone job → status ≡ Usage → Completes (seen old) (seen new) (IsAnswerOf job (seen old).content) status
  usage_completes None done is = (([], Usage), refl, record { status_is = is; said = ap (λ (host : A). (seen host).said) done.1 ∙ sym (append-nil (seen old).said) })
  usage_completes (Some job) done is = absurd (done.ends.no_usage is)

  pub completes : (job : Option Job) → IsDone job → tells → NoFault (seen old) (seen new) → status ≢ NoMemory → Completes (seen old) (seen new) (IsAnswerOf job (seen old).content) status
  completes None done told none memory = usage_completes None done ((unread_is status done.0).is_usage memory)
  completes (Some job) done told none memory =
      complete (seen old) (seen new) (IsLookAnswer job (seen old).content) status (usage_completes (Some job) done) (done.ends.answers told) done.ends.causes none memory
