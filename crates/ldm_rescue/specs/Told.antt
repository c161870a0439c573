-- What is said of sectors of a volume, with the ranges of lost ones that are told, sector by sector and so far.
use Rattle.std.specs.Prelude.{◌≡◌, ℕ, ◌+◌, ◌<◌, ◌++◌, List, [], None, IfSome}
use Rattle.std.specs.Option.{option_to_list}
use Rattle.ldm_host.specs.declared.host.DiskRange.{DiskRange}
use Rattle.ldm_places.specs.Layouts.{Layout}
use Rattle.ldm_copy.specs.declared.found.Found.{Found}
use Rattle.ldm_rescue.specs.declared.losses.Loss.{Loss}
use Rattle.ldm_rescue.specs.declared.losses.Losing.{Losing}
use Rattle.ldm_rescue.specs.Rescued.{AreRescued, IsCause}
use Rattle.ldm_rescue.specs.Losses.{cause_at, is_lost_at, lost_in, AreRanges}

-- Sectors, so many from the first on, are said with these bytes, after these reads failed. The sectors of these ranges are lost, each
-- for the cause of its range, and no others.
pub record AreTold (images : List (List ℕ)) (failed : List DiskRange) (found : Found) (l : Layout) (first count : ℕ) (bytes : List ℕ) (losses : List Loss) : Type 0 where
  pub rescued : AreRescued images failed found l first count (is_lost_at losses) bytes
  pub causes : (i : ℕ) → i < count → IfSome (cause_at losses (first + i)) (IsCause found l failed (first + i))

-- How far a rescue has come: so many sectors, from the first on, have these bytes. What hears of losses has heard of all ranges but
-- the last, which may go on.
pub record SoFar (tells hears : Type 0) (images : List (List ℕ)) (failed : List DiskRange) (before after : List Loss) (losing : Losing) (found : Found) (l : Layout) (first count : ℕ) (bytes : List ℕ) : Type 0 where
  pub told : List Loss
  pub are : tells → AreTold images failed found l first count bytes (told ++ option_to_list losing.last)
  pub ranges : AreRanges first (first + count) (told ++ option_to_list losing.last)
  pub heard : hears → after ≡ before ++ told
  pub opens : losing.last ≡ None → told ≡ []
  pub lost : losing.lost ≡ lost_in (told ++ option_to_list losing.last)
