-- Ranges of sectors of a volume that are lost, each for one cause.
use Rattle.std.specs.Prelude.{◌≡◌, ◌⊎◌, ℕ, ◌+◌, ◌<◌, ◌≤◌, ◌&&◌, nat_le, nat_lt, Bool, List, [], ◌∷◌, sum_by, is_some, Option, Some, None, if◌then◌else◌}
use Rattle.ldm_rescue.specs.declared.reading.Cause.{Cause}
use Rattle.ldm_rescue.specs.declared.losses.Loss.{Loss}

-- the sector is one of the range
abbrev pub is_in_loss : Loss → ℕ → Bool
is_in_loss loss x = nat_le loss.first x && nat_lt x (loss.first + loss.count)

-- why the sector is lost, by the first range that has it; nothing where none has it
abbrev pub cause_at : List Loss → ℕ → Option Cause
cause_at [] x = None
cause_at (loss ∷ more) x = if is_in_loss loss x then Some loss.cause else cause_at more x

abbrev pub is_lost_at : List Loss → ℕ → Bool
is_lost_at losses x = is_some (cause_at losses x)

-- how many sectors the ranges have
abbrev pub lost_in : List Loss → ℕ
lost_in losses = sum_by (λ loss. loss.count) losses

-- the second range goes on where the first ends, for the cause of the first
pub record GoesOn (first second : Loss) : Type 0 where
  pub touches : first.first + first.count ≡ second.first
  pub same : first.cause ≡ second.cause

-- the range ends where the next one, if there is one, doesn't go on
abbrev pub IsEnded : Loss → List Loss → Type 0
IsEnded loss [] = Unit {0}
IsEnded loss (next ∷ more) = GoesOn loss next → ⊥

-- The ranges rise from one sector on, to an end, none is empty, and none goes on in the next.
abbrev pub AreRanges : ℕ → ℕ → List Loss → Type 0
AreRanges at end [] = at ≤ end
AreRanges at end (loss ∷ more) = (at ≤ loss.first) × (0 < loss.count) × IsEnded loss more × AreRanges (loss.first + loss.count) end more

-- the range with so many sectors more
abbrev pub longer : Loss → ℕ → Loss
longer loss count = record { first = loss.first; count = loss.count + count; cause = loss.cause }

-- What is told, and which range may go on then, where a piece of lost sectors comes behind all ranges: it joins the last one, or
-- that one is told.
abbrev pub AddsPiece : Option Loss → Loss → List Loss → Option Loss → Type 0
AddsPiece None piece told next = (told ≡ []) × (next ≡ Some piece)
AddsPiece (Some last) piece told next = (GoesOn last piece × (told ≡ []) × (next ≡ Some (longer last piece.count))) ⊎ ((GoesOn last piece → ⊥) × (told ≡ last ∷ []) × (next ≡ Some piece))

-- What is told, and which range may go on then, where so many sectors from the first on come behind all others, lost for a cause or
-- not lost.
abbrev pub Comes : Option Cause → ℕ → ℕ → Option Loss → List Loss → Option Loss → Type 0
Comes None first count last told next = (told ≡ []) × (next ≡ last)
Comes (Some cause) first count last told next = AddsPiece last (record { first = first; count = count; cause = cause }) told next

-- how many of so many sectors are lost
abbrev pub lost_among : Option Cause → ℕ → ℕ
lost_among None count = 0
lost_among (Some cause) count = count
