use Rattle.std.proofs.Common.{get_or, refl}
use Rattle.ldm_places.proofs.SpotLaws.{none}
use Rattle.ldm_places.proofs.LeastLaws.{least_whole}
use Rattle.ldm_places.proofs.columns.least_size.Goals as goal

pub returns-in-len1-up : goal.returns-in-len1-up
returns-in-len1-up c =
    let es = c.args.extents.now in
    least_whole (λ e. e.size) es es (get_or es 0 none) none _ _ c.in-len1-up.len_at_least refl refl c.least_with.ensures refl
