-- How the run of a scan ends, by what is found and what is said of it.
use Rattle.std.proofs.Common.{◌≡◌, ◌≢◌, inl, ℕ, List, [], ◌++◌, length, drop, Option, refl, sym, ◌∙◌, ap, subst}
use Rattle.std.proofs.lemmas.List.{append-nil}
use Rattle.ldm_host.specs.Seen.{Seen}
use Rattle.ldm_host.specs.Moves.{Quiet, Rose, Still}
use Rattle.ldm_host.specs.declared.host.DiskRange.{DiskRange}
use Rattle.ldm_host.proofs.Relations.{rose_sooner}
use Rattle.ldm_words.specs.declared.job.Format.{Format}
use Rattle.ldm_words.specs.declared.status.Status.{Status}
use Rattle.ldm_words.specs.declared.status.Status.TheVariants.{Done, Refused, Usage, DiskFault, NoMemory, TalkFault}
use Rattle.ldm_look.specs.Said.{Answer}
use Rattle.ldm_look.specs.Runs.{Answers, Causes, Completes, Ends, OnlyReads}
use Rattle.ldm_look.proofs.EndLaws.{answers_as}
use Rattle.ldm_scan.specs.declared.finding.Finding.{Finding}
use Rattle.ldm_host.specs.Failed.{failed_since}
use Rattle.ldm_scan.specs.Findings.{AreFindings, IsFindingsAnswer, said_findings}
use Rattle.ldm_scan.proofs.FailLaws.{no_less_talk}

-- where memory ran out nothing was said
pub none_said : (old new : Seen) (IsOne : Answer → Type 0) → Quiet old new → Answers old new IsOne NoMemory
none_said old new IsOne quiet = record {
  whole = λ has. absurd has;
  since = ([], quiet.said ∙ sym (append-nil old.said));
  front = inl quiet.said;
}

-- where the talk didn't fail, an answer that isn't want of memory is whole
pub completes_past : (old new : Seen) (IsOne : Answer → Type 0) (status : Status) → status ≢ DiskFault → status ≢ Usage → Answers old new IsOne status → Causes old new status
    → (Rose old.talk_faults new.talk_faults → ⊥) → status ≢ NoMemory → Completes old new IsOne status
completes_past old new IsOne Done disk usage a c n m = a.whole tt
completes_past old new IsOne Refused disk usage a c n m = a.whole tt
completes_past old new IsOne Usage disk usage a c n m = absurd (usage refl)
completes_past old new IsOne DiskFault disk usage a c n m = absurd (disk refl)
completes_past old new IsOne NoMemory disk usage a c n m = absurd (m refl)
completes_past old new IsOne TalkFault disk usage a c n m = absurd (n (c.talk refl))

-- what was found, and then was said
module _ (format : Format) (causes : List (Option (List ℕ))) (findings : List Finding) (start mid new : Seen) (status : Status) (account : new.failed ≡ mid.failed) where
  pub said_answers : mid.said ≡ start.said → AreFindings (failed_since start mid) start.content 0 causes findings
      → Answers mid new (λ answer. answer ≡ (said_findings format findings, Done)) status
      → Answers start new (IsFindingsAnswer format causes (failed_since start new) start.content) status
  said_answers quiet are answers =
      answers_as start mid new (λ answer. answer ≡ (said_findings format findings, Done)) (IsFindingsAnswer format causes (failed_since start new) start.content) status quiet
      (λ answer is. (findings, subst (λ (l : List DiskRange). AreFindings (drop (length start.failed) l) start.content 0 causes findings) (sym account) are, is))
      answers

  pub said_causes : ∥ Still start mid ∥₁ → status ≢ DiskFault → Causes mid new status → Causes start new status
  said_causes still no_disk c = record {
    disk = λ is. absurd (no_disk is);
    talk = λ is. rose_sooner start.talk_faults mid.talk_faults new.talk_faults (no_less_talk start mid still) (c.talk is);
  }
