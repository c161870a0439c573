use Rattle.std.proofs.Common.{arith}
use Rattle.ldm_dump.proofs.RunLaws.{chunk_is}
use Rattle.ldm_scrub.proofs.CompareLaws.{untiled, sector_raid5, place_of_row}
use Rattle.ldm_scrub.proofs.places.row_place.Goals as goal

pub returns : goal.returns
returns c = grind (arith, untiled, chunk_is, sector_raid5, place_of_row)
