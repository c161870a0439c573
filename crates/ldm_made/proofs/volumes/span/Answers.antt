use Rattle.std.proofs.Common.{◌≡◌, ◌∙◌, ◌+◌, ap, arith, length, None, false}
use Rattle.std.specs.Prelude.{sum_by}
use Rattle.ldm_made.specs.Made.{new_volume, new_component}
use Rattle.ldm_made.specs.declared.taken.Taken.{Taken}
use Rattle.ldm_made.specs.Volumes.{span_parts}
use Rattle.ldm_made.proofs.PartWalk.{in_each, two_first}
use Rattle.ldm_made.proofs.volumes.span.Goals as goal

pub returns : goal.returns
returns c =
    let size : sum_by (λ (t : Taken). t.size) c.args.spots.now ≡ c.sectors_with-size.result = (let e = c.sectors_with-size.ensures in omega arith) in
    in_each _ _ c.with_tiles.result
    (λ v e. two_first c.new-records.result.items c.push.new.self.items c.push-2.new.self.items v.items c.in_ok-new_volume.field-0 c.in_ok-new_component.field-0
    (new_volume c.args.id c.args.name.now c.args.guid false 1 (sum_by (λ (t : Taken). t.size) c.args.spots.now)) (new_component (c.args.id + 1) c.args.id 2 (length c.args.spots.now) None)
    (span_parts (c.args.id + 2) (c.args.id + 1) 0 c.args.spots.now) c.new-records.ensures.items c.in_ok-push.ensures.items c.in_ok-push-2.ensures.items
    (ap (new_volume c.args.id c.args.name.now c.args.guid false 1) size ∙ c.in_ok-new_volume.ensures) c.in_ok-new_component.ensures e) c.with_tiles.ensures
