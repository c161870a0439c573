use Rattle.std.proofs.Common.{◌≡◌, take}
use Rattle.ldm_edits.specs.Staying.{plex_ids}
use Rattle.ldm_edits.proofs.owning.component_ids.Given as goal

abbrev pub invariant-loop-r : goal.invariant-loop-r
invariant-loop-r l = l.ids.items ≡ plex_ids l.volume (take l.r-index l.records)
