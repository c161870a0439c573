-- What holds of what is seen of images.
use Rattle.ldm_found.specs.Facts.{IsSoundGroup}
use Rattle.ldm_copy.specs.declared.found.Found.{Found}
use Rattle.ldm_edits.specs.Changes.{AreasFit}
use Rattle.ldm_explain.specs.declared.sight.Sight.{Sight}
use Rattle.ldm_explain.specs.declared.sight.Sight.TheVariants.{Said, Group}

-- a group that was found, whose config areas have no more sectors than the database keeps for them
pub record IsFound (found : Found) : Type 0 where
  pub sound : IsSoundGroup found
  pub areas : AreasFit found.labels

-- a group that is seen was found
abbrev pub IsSight : Sight → Type 0
IsSight (Said text) = Unit {0}
IsSight (Group found) = IsFound found
