-- Images while copies of the database that have a fault are closed, and what they hold past what is damaged.
use Rattle.std.specs.Prelude.{◌≡◌, ◌⊎◌, ℕ, ◌+◌, ◌<◌, ◌≤◌, List, Result, Ok, OnOk, IsErr, is_some, get_or, length, slice_index, if◌then◌else◌}
use Rattle.ldm_host.specs.Seen.{Seen, image}
use Rattle.ldm_host.specs.Moves.{AtEachMoment, Works}
use Rattle.ldm_host.specs.declared.host.Failed.{Failed}
use Rattle.ldm_label.specs.declared.Label.{Label}
use Rattle.ldm_label.specs.LabelOf.{label_of}
use Rattle.ldm_copy.specs.declared.answer.CopyState.{CopyState}
use Rattle.ldm_copy.specs.declared.answer.CopyState.TheVariants.{Closed}
use Rattle.ldm_copy.specs.declared.answer.CopyFault.{CopyFault}
use Rattle.ldm_copy.specs.declared.fault.OpenFault.{OpenFault}
use Rattle.ldm_copy.specs.declared.found.Found.{Found}
use Rattle.ldm_found.specs.Copies.{IsCopyIn}
use Rattle.ldm_found.specs.Labels.{AreSameOutside}
use Rattle.ldm_found.specs.Opening.{IsGroupIn}
use Rattle.ldm_init.specs.Images.{NothingPending}
use Rattle.ldm_damage.specs.declared.damage.Damage.{Damage}
use Rattle.ldm_damage.specs.Views.{AreDamaged, no_damage}

-- ---- what images hold

-- The group that images hold past what is damaged: that of their views.
pub record IsGroupPast (images : List (List ℕ)) (group : Result Found OpenFault) : Type 0 where
  pub damages : List Damage
  pub views : List (List ℕ)
  pub are : AreDamaged images damages views
  pub is : IsGroupIn views group

-- The second image reads as the first: it has its label, and its copy.
pub record ReadsAlike (one other : List ℕ) : Type 0 where
  pub label : label_of other ≡ label_of one
  pub copy : (label : Label) (copy : Result CopyState CopyFault) → label_of one ≡ Ok label → IsCopyIn (label, one) copy → IsCopyIn (label, other) copy

-- The second image reads as the first, whose copy is closed.
pub record IsClosedAs (view now : List ℕ) : Type 0 where
  pub alike : ReadsAlike view now
  pub label : Label
  pub label_is : label_of view ≡ Ok label
  pub closed : IsCopyIn (label, view) (Ok Closed)

-- Each image is as it was, or reads as its view, whose copy is closed.
pub record AreBetween (images views now : List (List ℕ)) : Type 0 where
  pub one_each : length now ≡ length images
  pub each : (disk : ℕ) → disk < length images → (image now disk ≡ image images disk) ⊎ IsClosedAs (image views disk) (image now disk)

-- ---- laws

-- while damaged copies are closed, the images hold past damage the group that they held
abbrev pub ClosingKeepsGroup : Type 0
ClosingKeepsGroup =
    (images views now : List (List ℕ)) (damages : List Damage) (group : Result Found OpenFault) → AreDamaged images damages views
    → AreBetween images views now → IsGroupIn views group → IsGroupPast now group

-- a group that opens is held past damage too
abbrev pub GoodIsPast : Type 0
GoodIsPast = (images : List (List ℕ)) (found : Found) → IsGroupIn images (Ok found) → IsGroupPast images (Ok found)

-- one group is held past damage
abbrev pub OneGroupPast : Type 0
OneGroupPast = (images : List (List ℕ)) (a b : Result Found OpenFault) → IsGroupPast images a → IsGroupPast images b → a ≡ b

-- ---- closing all that are damaged

-- a damaged copy is handed one byte, its gate
abbrev pub closing_bytes : Damage → ℕ
closing_bytes damage = if is_some damage.copy then 1 else 0

-- At a moment while copies are closed: each image is as it was or reads as its view, and no byte outside the config areas is changed.
pub record IsClosing (labels : List Label) (views : List (List ℕ)) (start : Seen) (images : List (List ℕ)) (said : List ℕ) : Type 0 where
  pub between : AreBetween start.content views images
  pub outside : AreSameOutside labels start.content images
  pub said_is : said ≡ start.said

-- The copies that are damaged are closed, one after another, as far as no disk fails.
pub record ClosesAll (tells : Type 0) (result : Result (Unit {0}) Failed) (labels : List Label) (damages : List Damage) (old new : Seen) : Type 0 where
  pub any_moment : tells → (views : List (List ℕ)) → AreDamaged old.content damages views → AtEachMoment old new (IsClosing labels views old)
  -- Then the images are their views.
  pub done : tells → OnOk result ((views : List (List ℕ)) → AreDamaged old.content damages views → new.content ≡ views)
  pub outside : tells → AreSameOutside labels old.content new.content
  pub settled : OnOk result (NothingPending new)
  pub handed : (disk : ℕ) → slice_index new.wrote disk ≤ slice_index old.wrote disk + closing_bytes (get_or damages disk no_damage)
  pub works : Works old new (IsErr result)
