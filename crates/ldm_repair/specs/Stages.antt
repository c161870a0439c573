-- What becomes of the host in the steps of a repair.
use Rattle.std.specs.Prelude.{◌≡◌, ℕ, List, Ok, Result, OnOk, IsErrOf, slice_get, slice_index, Some, None, ◌+◌, ◌≤◌}
use Rattle.ldm_host.specs.Seen.{Seen}
use Rattle.ldm_host.specs.Moves.{AtEachMoment, SameInput, Works}
use Rattle.ldm_copy.specs.declared.fault.OpenFault.{OpenFault}
use Rattle.ldm_copy.specs.declared.found.Found.{Found}
use Rattle.ldm_copy.specs.declared.notes.Note.{Note}
use Rattle.ldm_found.specs.Facts.{LieOn, IsSoundGroup}
use Rattle.ldm_found.specs.Opening.{IsGroupIn}
use Rattle.ldm_found.specs.declared.fault.OpenError.{OpenError}
use Rattle.ldm_found.specs.declared.fault.OpenError.TheVariants as errors
use Rattle.ldm_look.specs.Said.{SaysNothing}
use Rattle.ldm_look.specs.Runs.{Ends}
use Rattle.ldm_words.specs.declared.status.Status.{Status}
use Rattle.ldm_damage.specs.declared.damage.Damage.{Damage}
use Rattle.ldm_repair.specs.declared.planning.Plan.{Plan}
use Rattle.ldm_repair.specs.Repairing.{IsRepairAnswer, IsRepairing, EveryStopRepairs, HoldsRepaired, RepairsDisks, repair_handed, text_of_repair, damaged_copies}

-- What becomes of disks on which nothing is pending, from the time on when what is damaged is looked for.
pub record DoesRepair (tells : Type 0) (old new : Seen) (status : Status) : Type 0 where
  pub ends : Ends tells old new (IsRepairAnswer old.content) status
  pub silent : SaysNothing status → new.said ≡ old.said
  pub input : SameInput old new
  pub disks : ∥ RepairsDisks tells old new status ∥₁
  pub stops : tells → ∥ EveryStopRepairs old new ∥₁

-- The group that the views hold may be edited, and this is what will be said.
pub record IsPlanned (tells : Type 0) (views : List (List ℕ)) (sizes : List ℕ) (damages : List Damage) (plan : Plan) : Type 0 where
  pub sound : IsSoundGroup plan.found
  pub editable : plan.found.blocked ≡ None
  pub lies : LieOn plan.found.labels sizes
  pub is : tells → IsGroupIn views (Ok plan.found)
  pub text : plan.text ≡ text_of_repair plan.found.db.header.seq (damaged_copies damages)

-- Damaged copies are closed, and then all that are behind are healed.
pub record HealsClosed (tells : Type 0) (result : Result (Unit {0}) OpenError) (found : Found) (old new : Seen) : Type 0 where
  pub moments : tells → AtEachMoment old new (IsRepairing found old)
  pub unsaid : tells → AtEachMoment old new (λ images said. said ≡ old.said)
  pub done : tells → OnOk result (HoldsRepaired found old new)
  pub handed : tells → (disk : ℕ) (note : Note) → slice_get found.notes disk ≡ Some note
      → slice_index new.wrote disk ≤ slice_index old.wrote disk + repair_handed found note
  pub faultless : tells → (fault : OpenFault) → IsErrOf result (errors.Fault fault) → ⊥
  pub works : Works old new (IsErrOf result errors.Disk)
