-- What is answered to a repair: there is one answer, and a refusal that comes before anything is written.
use Rattle.std.proofs.Common.{◌≡◌, ⊎_elim, ℕ, List, Some, None, Option, Ok, Err, refl, sym, ◌∙◌, ap, subst}
use Rattle.ldm_host.specs.Seen.{Seen}
use Rattle.ldm_host.specs.Moves.{DiskFailed}
use Rattle.ldm_label.specs.declared.LabelFault.{LabelFault}
use Rattle.ldm_copy.specs.declared.fault.OpenFault.{OpenFault}
use Rattle.ldm_copy.specs.declared.fault.OpenFault.TheVariants as faults
use Rattle.ldm_copy.specs.declared.found.Found.{Found}
use Rattle.ldm_found.specs.Opening.{IsGroupIn}
use Rattle.ldm_found.proofs.GroupLaws.{one_group}
use Rattle.ldm_store.specs.Kept.{HoldsNoneFor}
use Rattle.ldm_damage.specs.declared.damage.Damage.{Damage}
use Rattle.ldm_damage.specs.declared.error.DamageError.{DamageError}
use Rattle.ldm_damage.specs.declared.error.DamageError.TheVariants as errors
use Rattle.ldm_damage.specs.Views.{AreDamaged}
use Rattle.ldm_damage.proofs.DamageLaws.{one_damage}
use Rattle.ldm_look.specs.Opening.{text_of_open_fault}
use Rattle.ldm_look.specs.Said.{Answer, refused}
use Rattle.ldm_look.specs.Looks.{IsGroupAnswer}
use Rattle.ldm_look.proofs.AnswerLaws.{one_of_group}
use Rattle.ldm_look.proofs.EndLaws.{Failing}
use Rattle.ldm_repair.proofs.RepairLaws.{disk_failing, memory_failing}
use Rattle.ldm_repair.specs.Repairing.{damaged_copies, damaged_label, damage_status, repair_answer, repaired_unless, text_of_repair, IsRepairAnswer, IsRepairPast, MayRepair}

-- ---- one answer

one_past : (at : Option (ℕ × LabelFault)) (damages : List Damage) (views : List (List ℕ)) (a b : Answer) → IsRepairPast at damages views a → IsRepairPast at damages views b → a ≡ b
one_past (Some at) damages views a b x y = x ∙ sym y
one_past None damages views a b x y = one_of_group (repair_answer (damaged_copies damages)) views a b x y

pub one_repair : (images : List (List ℕ)) (a b : Answer) → IsRepairAnswer images a → IsRepairAnswer images b → a ≡ b
one_repair images a b x y =
    let same = one_damage images x.views y.views x.damages y.damages x.are y.are in
    one_past (damaged_label y.damages) y.damages y.views a b
    (subst (λ (d : List Damage). IsRepairPast (damaged_label d) d y.views a) same.0
    (subst (λ (v : List (List ℕ)). IsRepairPast (damaged_label x.damages) x.damages v a) same.1 x.is)) y.is

-- ---- what is refused

module _ (images views : List (List ℕ)) (damages : List Damage) (are : AreDamaged images damages views) where
  -- a label that is damaged
  pub label_refused : (at : ℕ × LabelFault) → damaged_label damages ≡ Some at → IsRepairAnswer images (refused (text_of_open_fault (faults.Label at.0 at.1)))
  label_refused at is = record {
    damages = damages;
    views = views;
    are = are;
    is = subst (λ (o : Option (ℕ × LabelFault)). IsRepairPast o damages views (refused (text_of_open_fault (faults.Label at.0 at.1)))) (sym is) refl;
  }

  pub label_bars : (at : ℕ × LabelFault) → damaged_label damages ≡ Some at → (found : Found) → MayRepair images found → ⊥
  label_bars at is found may =
      let none : damaged_label damages ≡ None = ap damaged_label (one_damage images views may.views damages may.damages are may.are).0 ∙ may.labels in
      let e : Some at ≡ None = sym is ∙ none in absurd (cc e)

  -- a group that can't be edited
  module _ (labels : damaged_label damages ≡ None) (fault : OpenFault) (holds : HoldsNoneFor fault views) where
    group_answered : IsGroupAnswer (repair_answer (damaged_copies damages)) views (refused (text_of_open_fault fault))
    group_answered = ⊎_elim
        (λ is. (Err fault, is, refl))
        (λ blocked. (Ok blocked.0, blocked.1, ap (λ (o : Option OpenFault). repaired_unless o (text_of_repair blocked.0.db.header.seq (damaged_copies damages))) (sym blocked.2)))
        holds

    pub group_refused : IsRepairAnswer images (refused (text_of_open_fault fault))
    group_refused = record {
      damages = damages;
      views = views;
      are = are;
      is = subst (λ (o : Option (ℕ × LabelFault)). IsRepairPast o damages views (refused (text_of_open_fault fault))) (sym labels) group_answered;
    }

    pub group_bars : (found : Found) → MayRepair images found → ⊥
    group_bars found may =
        let here : IsGroupIn views (Ok found) = subst (λ (v : List (List ℕ)). IsGroupIn v (Ok found)) (sym (one_damage images views may.views damages may.damages are may.are).1) may.is in
        ⊎_elim
        (λ is. let e : Ok found ≡ Err fault = one_group views (Ok found) (Err fault) here is in absurd (cc e))
        (λ blocked.
        let e : Ok found ≡ Ok blocked.0 = one_group views (Ok found) (Ok blocked.0) here blocked.1 in
        let same : found ≡ blocked.0 = cc e in
        let no : None ≡ Some fault = sym may.editable ∙ ap (λ (f : Found). f.blocked) same ∙ blocked.2 in
        absurd (cc no))
        holds

-- ---- what isn't known

-- a fault that came before it was known what is damaged
pub damage_failing : (old new : Seen) (error : DamageError) → (error ≡ errors.Disk → DiskFailed old new) → Failing old new (damage_status error)
damage_failing old new errors.Disk cause = disk_failing old new (cause refl)
damage_failing old new errors.NoMemory cause = memory_failing old new
