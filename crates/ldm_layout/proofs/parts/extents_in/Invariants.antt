use Rattle.std.proofs.Common.{◌≡◌, take}
use Rattle.std.specs.List.{filter_map}
use Rattle.ldm_layout.specs.Parts.{extent_in}
use Rattle.ldm_layout.proofs.parts.extents_in.Given as goal

abbrev pub invariant-loop-r : goal.invariant-loop-r
invariant-loop-r l = l.extents.items ≡ filter_map extent_in (take l.r-index l.records)
