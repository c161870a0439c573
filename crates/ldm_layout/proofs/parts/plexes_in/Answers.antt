use Rattle.std.proofs.Common.{rules, arith}
use Rattle.std.proofs.lemmas.Grind.{common_steps}
use Rattle.std.proofs.lemmas.List.{take_more}
use Rattle.std.proofs.lemmas.List.Elements.{filter_map-append}
use Rattle.ldm_layout.proofs.parts.plexes_in.Goals as goal
use Rattle.ldm_layout.proofs.parts.plexes_in.Goals.{in-Some+in_ok-push, in_default}

pub loop-r-preserved : goal.loop-r-preserved
loop-r-preserved c =
    let more = take_more c.args.records.now c.loop-r.r-index c.r-item.result (search rules) in
    elim c.match-plex_in.branch [
      | in-Some+in_ok-push w ↦ rw (more, filter_map-append) (grind (arith, common_steps))
      | in_default w ↦ rw (more, filter_map-append) (grind (arith, common_steps))
    ]
