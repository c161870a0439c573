use Rattle.std.proofs.Common.{◌++◌}
use Rattle.ldm_space.specs.Free.{taken_in}
use Rattle.ldm_space.proofs.FreeLaws.{IsPlacedTo}
use Rattle.ldm_space.proofs.GapLaws.{AreMaps}
use Rattle.ldm_space.proofs.placed.FreeMaps.place.Given as goal

abbrev pub invariant-loop-at : goal.invariant-loop-at
invariant-loop-at l = record {
  so_far : IsPlacedTo (taken_in (l.records ++ l.more)) l.wanted l.at l.spots.items;
  maps : AreMaps (taken_in (l.records ++ l.more)) l.spots.items l.maps;
}
