use Rattle.std.proofs.Common.{◌≡◌, ◌++◌, take, unwrap_or, nat_eq}
use Rattle.indexmap.specs.IndexMap as map
use Rattle.ldm_look.specs.Show.{text_of_disks}
use Rattle.ldm_look.proofs.show_text.push_lines.Given as goal

abbrev pub invariant-loop-r : goal.invariant-loop-r
invariant-loop-r l = l.text ≡ l.fn.text ++ text_of_disks (λ disk. unwrap_or (map.get nat_eq l.used disk) 0) l.found.labels (take l.r-index l.found.db.records)
