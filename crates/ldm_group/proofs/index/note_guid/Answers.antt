use Rattle.std.proofs.Common.{ap, nat_eq}
use Rattle.std.proofs.lemmas.Bool.{eqb-true}
use Rattle.indexmap.specs.IndexMap.{get}
use Rattle.ldm_group.specs.Looks.{is_disk_with}
use Rattle.ldm_group.proofs.HitLaws.{noted, where_ok}
use Rattle.ldm_group.proofs.index.note_guid.Goals as goal

pub returns-in-Disk : goal.returns-in-Disk
returns-in-Disk c = where_ok c.note.result (λ put.
    noted c.args.records.now c.args.at c.index-records-at.result c.requires.within c.index-records-at.is nat_eq is_disk_with
    (get nat_eq c.args.guids.now) (get nat_eq c.note.new.map) c.in-Disk.d.guid (λ q. eqb-true c.in-Disk.d.guid q) put.0
    (λ q. ap (is_disk_with q) c.in-Disk.is) c.requires.before) c.note.ensures
