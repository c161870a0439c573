use Rattle.std.proofs.Common.{unwrap_or, nat_eq}
use Rattle.indexmap.specs.IndexMap as map
use Rattle.ldm_look.proofs.ShowLaws.{same_disks}
use Rattle.ldm_look.proofs.show_text.push_disks.Goals as goal

pub returns : goal.returns
returns c =
    rw (← same_disks (λ disk. unwrap_or (map.get nat_eq c.in_ok-used.used disk) 0) c.args.found.now.labels c.as_slice.result.now c.args.found.now.db.records c.in_ok-used.ensures c.as_slice.ensures.all) c.push_lines.ensures
