use Rattle.std.proofs.Common.{List, ℕ, bytes_eq, ap, sym, ◌∙◌}
use Rattle.std.specs.Cmp.Lexicographic.{bytes_decides}
use Rattle.ldm_group.specs.Hits.{at_name}
use Rattle.ldm_group.specs.Looks.{is_volume_named}
use Rattle.ldm_group.proofs.HitLaws.{noted, where_ok}
use Rattle.ldm_group.proofs.index.note_volume.Goals as goal

pub returns-in-Volume : goal.returns-in-Volume
returns-in-Volume c =
    let name = c.as_slice.result.now in
    where_ok c.note_name.result (λ put.
    noted c.args.records.now c.args.at c.index-records-at.result c.requires.within c.index-records-at.is bytes_eq is_volume_named
    (at_name c.args.volumes.now) (at_name c.note_name.new.names) name (λ q. (bytes_decides name q).0) put
    (λ q. ap (is_volume_named q) c.in-Volume.is ∙ ap (λ (bs : List ℕ). bytes_eq bs q) (sym c.as_slice.ensures)) c.requires.before) c.note_name.ensures
