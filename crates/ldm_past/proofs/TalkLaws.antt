-- What was said over a view is whole sectors or lines of its host too.
use Rattle.std.proofs.Common.{◌≡◌, inl, inr, ℕ, ◌+◌, ◌*◌, List, ◌∷◌, [], ◌++◌, length, Option, Some, None, sym, ap, ◌∙◌}
use Rattle.ldm_host.specs.Seen.{Seen}
use Rattle.ldm_words.specs.declared.job.Job.{Job}
use Rattle.ldm_words.specs.declared.job.Job.TheVariants.{Dump}
use Rattle.ldm_words.specs.declared.status.Status.{Status}
use Rattle.ldm_dump.specs.Bytes.{SaysSectors}
use Rattle.ldm_run.specs.Kinds.{SaysLines, SaysWhole}
use Rattle.ldm_run.proofs.WholeLaws.{silent_whole}
use Rattle.ldm_past.specs.PastTalk.{SaysWholePast}

-- states that say the same
module _ (a b va vb : Seen) (first : va.said ≡ a.said) (last : vb.said ≡ b.said) where
  lines_as : SaysLines va vb → SaysLines a b
  lines_as (inl same) = inl (sym last ∙ same ∙ first)
  lines_as (inr lines) = inr (lines.0, sym last ∙ lines.1 ∙ ap (λ (l : List ℕ). l ++ (lines.0 ++ 0x0A ∷ [])) first)

  sectors_as : SaysSectors va vb → SaysSectors a b
  sectors_as sectors = (sectors.0, sym (ap length last) ∙ sectors.1 ∙ ap (λ (l : List ℕ). length l + 512 * sectors.0) first)

  job_as : (job : Job) → SaysWhole job va vb → SaysWhole job a b
  job_as (Dump name section) says = sectors_as says
  job_as other says = lines_as says

  pub says_as : (reading : Option (Job × ℕ)) (status : Status) → SaysWholePast reading va vb status → SaysWholePast reading a b status
  says_as None status says breaks = tt
  says_as (Some reading) status says breaks = job_as reading.0 (says breaks)

pub nothing_said : (reading : Option (Job × ℕ)) (a b : Seen) (status : Status) → b.said ≡ a.said → SaysWholePast reading a b status
nothing_said None a b status same breaks = tt
nothing_said (Some reading) a b status same breaks = silent_whole reading.0 a b same
