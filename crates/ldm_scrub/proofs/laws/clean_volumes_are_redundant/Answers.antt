use Rattle.ldm_scrub.proofs.CompareLaws.{clean_redundant}
use Rattle.ldm_scrub.proofs.laws.clean_volumes_are_redundant.Goals as goal

pub returns : goal.returns
returns c = clean_redundant
