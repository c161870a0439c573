-- There is one answer past damage.
use Rattle.std.proofs.Common.{◌≡◌, ℕ, List, Option, Some, None, refl, sym, subst, ◌∙◌}
use Rattle.ldm_words.specs.declared.job.Format.{Format}
use Rattle.ldm_words.specs.declared.job.Job.{Job}
use Rattle.ldm_words.specs.Jobs.{job_of}
use Rattle.ldm_look.specs.Said.{Answer}
use Rattle.ldm_look.proofs.AnswerLaws.{one_formatted}
use Rattle.ldm_run.specs.Answer.{IsReadingAnswer}
use Rattle.ldm_run.proofs.AnswerLaws.{one_answer}
use Rattle.ldm_damage.specs.declared.damage.Damage.{Damage}
use Rattle.ldm_damage.proofs.DamageLaws.{one_damage}
use Rattle.ldm_past.specs.PastAnswer.{past_check_answer, format_of_check, IsAnswerPast, IsPastReading, IsPastAnswer}

module _ (words : List (List ℕ)) (damages : List Damage) (views : List (List ℕ)) (input : List ℕ) (a b : Answer) where
  one_by_format : (format : Option Format) (reading : Job × ℕ) → job_of words ≡ Some reading
      → IsAnswerPast format reading.0 damages views input a → IsAnswerPast format reading.0 damages views input b → a ≡ b
  one_by_format (Some format) reading is x y = one_formatted format (past_check_answer format damages views) views a b x y
  one_by_format None reading is x y =
      one_answer words views input a b (subst (λ (o : Option (Job × ℕ)). IsReadingAnswer o views input a) (sym is) x)
      (subst (λ (o : Option (Job × ℕ)). IsReadingAnswer o views input b) (sym is) y)

  one_reading_past : (reading : Option (Job × ℕ)) → job_of words ≡ reading → IsPastReading reading damages views input a → IsPastReading reading damages views input b → a ≡ b
  one_reading_past None is x y = x ∙ sym y
  one_reading_past (Some reading) is x y = one_by_format (format_of_check reading.0) reading is x y

pub one_answer_past : (words images : List (List ℕ)) (input : List ℕ) (a b : Answer) → IsPastAnswer words images input a → IsPastAnswer words images input b → a ≡ b
one_answer_past words images input a b x y =
    let same = one_damage images x.views y.views x.damages y.damages x.are y.are in
    one_reading_past words y.damages y.views input a b (job_of words) refl
    (subst (λ (d : List Damage). IsPastReading (job_of words) d y.views input a) same.0
    (subst (λ (v : List (List ℕ)). IsPastReading (job_of words) x.damages v input a) same.1 x.is)) y.is
