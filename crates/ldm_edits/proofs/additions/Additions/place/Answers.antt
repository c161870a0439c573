use Rattle.std.proofs.Common.{◌++◌, List}
use Rattle.ldm_edits.proofs.Common.{Record, in_order, taken_in, placed}
use Rattle.std.proofs.lemmas.List.Sorted.{All-permutation, IsPermutation-sym}
use Rattle.ldm_group.specs.Partitions.{EndsInRange}
use Rattle.ldm_group.proofs.InOrder.{in_order_same}
use Rattle.ldm_space.specs.Placed.{PlacesAs}
use Rattle.ldm_edits.proofs.AdditionLaws.{placed_both, places_beside, refused_beside}
use Rattle.ldm_edits.proofs.additions.Additions.place.Goals.{In_ok-placed}
use Rattle.ldm_edits.proofs.additions.Additions.place.Goals as goal

pub place-requires-clause-ends : goal.place-requires-clause-ends
place-requires-clause-ends c =
    rw (c.as_slice.ensures.all, c.as_slice-2.ensures.value)
    (All-permutation EndsInRange _ _ (IsPermutation-sym _ _ (in_order_same (c.args.db.now.records ++ c.args.self.now.records.items))) c.requires.ends)

abbrev all : In_ok-placed → List Record
all c = c.args.db.now.records ++ c.args.self.now.records.items

both : (c : In_ok-placed) → PlacesAs c.in_ok-placed.field-0 (taken_in (all c))
    (placed (taken_in (in_order (all c))) 0 c.args.wanted.now)
both c = rw (← placed_both (all c), ← c.as_slice.ensures.all, ← c.as_slice-2.ensures.value) c.in_ok-placed.ensures

pub returns-in-Ok-clause-is : goal.returns-in-Ok-clause-is
returns-in-Ok-clause-is c =
    places_beside _ _ c.in-Ok.placed (rw c.in-Ok.is at (both (goal.at.returns-in-Ok-clause-is c).In_ok-placed))

pub returns-in-Err-clause-is : goal.returns-in-Err-clause-is
returns-in-Err-clause-is c =
    refused_beside _ c.in-Err.piece (rw c.in-Err.is at (both (goal.at.returns-in-Err-clause-is c).In_ok-placed))
