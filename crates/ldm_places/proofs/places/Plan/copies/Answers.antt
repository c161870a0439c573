use Rattle.std.proofs.Common.{arith}
use Rattle.ldm_places.proofs.SpotLaws.{some_plex}
use Rattle.ldm_places.proofs.places.Plan.copies.Goals as goal

pub returns-clause-some : goal.returns-clause-some
returns-clause-some c = grind (arith, some_plex)
