-- The config areas of labels that lie on disks.
use Rattle.std.proofs.Common.{arith, ℕ, List, get_or}
use Rattle.std.proofs.lemmas.Option.{slice_get-get_or}
use Rattle.ldm_label.specs.declared.Label.{Label}
use Rattle.ldm_edits.specs.Changes.{AreasFit}
use Rattle.ldm_found.specs.Facts.{LieOn}

-- no config area has more sectors than the database keeps for it
pub areas_fit : (labels : List Label) (sizes : List ℕ) → LieOn labels sizes → AreasFit labels
areas_fit labels sizes lie k d lt = (let area = (lie.fits k (get_or labels k d) (slice_get-get_or labels k d lt)).area in omega arith)
