use Rattle.std.proofs.Common.{ℕ, List, get_or, arith}
use Rattle.std.proofs.lemmas.Option.{slice_get-get_or}
use Rattle.ldm_label.specs.declared.Label.{Label}
use Rattle.ldm_found.specs.Facts.{LieOn}
use Rattle.ldm_edits.specs.Changes.{AreasFit}
use Rattle.ldm_group_tests.proofs.steps.group_of.Goals as goal

areas_fit : (labels : List Label) (sizes : List ℕ) → LieOn labels sizes → AreasFit labels
areas_fit labels sizes lie k d lt = (let area = (lie.fits k (get_or labels k d) (slice_get-get_or labels k d lt)).area in omega arith)

pub returns-in-Ok-clause-areas : goal.returns-in-Ok-clause-areas
returns-in-Ok-clause-areas c = areas_fit c.in-Ok.found.labels _ c.in-Ok.ensures.lies
