use Rattle.std.proofs.Common.{◌≡◌, take}
use Rattle.std.specs.List.{filter_map}
use Rattle.ldm_layout.specs.Parts.{plex_in}
use Rattle.ldm_layout.proofs.parts.plexes_in.Given as goal

abbrev pub invariant-loop-r : goal.invariant-loop-r
invariant-loop-r l = l.plexes.items ≡ filter_map plex_in (take l.r-index l.records)
