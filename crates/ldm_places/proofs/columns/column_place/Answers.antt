use Rattle.std.proofs.Common.{length, arith}
use Rattle.ldm_places.proofs.PlaceLaws.{raid5_inside}
use Rattle.ldm_places.proofs.SpotLaws.{place_there, ends_there, sizes, none}
use Rattle.ldm_places.specs.Extents.{least}
use Rattle.ldm_places.specs.Places.{raid5_offset}
use Rattle.ldm_places.proofs.columns.column_place.Goals as goal

pub overflow_add-result-2 : goal.overflow_add-result-2
overflow_add-result-2 c =
    let es = c.args.columns.now in
    let inside = raid5_inside (length es) c.args.chunk (least (sizes es)) c.args.sector c.requires.chunked c.requires.many c.requires.within in
    let low = ends_there es c.args.column (raid5_offset (length es) c.args.chunk c.args.sector) none c.requires.ends c.requires.there inside.2 in
    omega (arith, low)

pub returns : goal.returns
returns c =
    let es = c.args.columns.now in
    place_there es c.args.column (raid5_offset (length es) c.args.chunk c.args.sector) none c.requires.there
