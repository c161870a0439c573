use Rattle.std.proofs.Common.{◌≡◌, ◌++◌, take, unwrap_or, nat_eq}
use Rattle.std.specs.Prelude.{flat_map}
use Rattle.indexmap.specs.IndexMap as index
use Rattle.ldm_space.specs.Free.{taken_in}
use Rattle.json.specs.Tree.{json_tokens}
use Rattle.ldm_look.specs.ShowJson.{disk_jsons}
use Rattle.ldm_look.proofs.show_json.push_disks.Given as goal

abbrev pub invariant-loop-r : goal.invariant-loop-r
invariant-loop-r l = l.json ≡ l.fn.json ++ flat_map json_tokens (disk_jsons l.paths (λ disk. unwrap_or (index.get nat_eq l.used disk) 0) (taken_in l.found.db.records) l.found.labels (take l.r-index l.found.db.records))
