use Rattle.std.proofs.Common.{length, arith}
use Rattle.ldm_places.proofs.PlaceLaws.{stripe_inside}
use Rattle.ldm_places.proofs.SpotLaws.{place_there, ends_there, some_columns, sizes, none}
use Rattle.ldm_places.specs.Extents.{least}
use Rattle.ldm_places.specs.Places.{stripe_column, stripe_offset}
use Rattle.ldm_places.proofs.columns.stripe_place.Goals as goal

pub overflow_add-result-2 : goal.overflow_add-result-2
overflow_add-result-2 c =
    let es = c.args.columns.now in
    let inside = stripe_inside (length es) c.args.chunk (least (sizes es)) c.args.sector c.requires.chunked (some_columns (length es) c.args.chunk (least (sizes es)) c.args.sector c.requires.within) c.requires.within in
    let low = ends_there es (stripe_column (length es) c.args.chunk c.args.sector) (stripe_offset (length es) c.args.chunk c.args.sector) none c.requires.ends inside.0 inside.1 in
    omega (arith, low)

pub returns : goal.returns
returns c =
    let es = c.args.columns.now in
    let inside = stripe_inside (length es) c.args.chunk (least (sizes es)) c.args.sector c.requires.chunked (some_columns (length es) c.args.chunk (least (sizes es)) c.args.sector c.requires.within) c.requires.within in
    place_there es (stripe_column (length es) c.args.chunk c.args.sector) (stripe_offset (length es) c.args.chunk c.args.sector) none inside.0
