use Rattle.std.proofs.Common.{◌≡◌, rules}
use Rattle.ldm_places.proofs.LeastLaws.{least_whole}
use Rattle.ldm_places.specs.Layouts.{plex_capacity}
use Rattle.ldm_places.proofs.draft.Draft.capacity.Goals as goal

pub returns-in-len1-up : goal.returns-in-len1-up
returns-in-len1-up c =
    let plexes : c.as_slice.result.now ≡ c.args.self.now.plexes = search rules in
    least_whole (plex_capacity c.args.self.now.shape c.args.self.now.chunk) c.as_slice.result.now c.args.self.now.plexes c.first-item.result c.first-item.result _ _
    c.in-len1-up.len_at_least c.first-item.is c.plex_capacity.ensures c.capacity_with.ensures plexes
