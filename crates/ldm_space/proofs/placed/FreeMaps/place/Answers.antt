use Rattle.std.proofs.Common.{◌++◌, ◌-◌, ◌^◌, refl, arith, get_or, List}
use Rattle.std.proofs.lemmas.Grind.{common_steps}
use Rattle.ldm_made.specs.declared.taken.Taken.{Taken}
use Rattle.ldm_space.specs.declared.placed.Wanted.{Wanted}
use Rattle.ldm_space.specs.Free.{taken_in}
use Rattle.ldm_space.specs.Gaps.{AreGaps}
use Rattle.ldm_space.specs.Wanted.{placing}
use Rattle.ldm_space.proofs.FreeLaws.{ahead_none, placed_more, placed_none, placed_all}
use Rattle.ldm_space.proofs.GapLaws.{maps_begun, maps_ended, map_there, maps_more}
use Rattle.ldm_space.proofs.placed.FreeMaps.place.Goals as goal

pub loop-at-init : goal.loop-at-init
loop-at-init c = grind (arith, common_steps, ahead_none, maps_begun)

pub returns-in_default : goal.returns-in_default
returns-in_default c = grind (arith, common_steps, map_there, placed_none)

pub loop-at-preserved : goal.loop-at-preserved
loop-at-preserved c =
    let taken : List Taken = taken_in (c.args.records.now ++ c.args.more.now) in
    let spots : List Taken = c.loop-at.spots.items in
    let d : Wanted = record { disk = 0; limit = 0; size = 0 } in
    let w : Wanted = get_or c.args.wanted.now c.loop-at.at d in
    let are : AreGaps c.in_ok-map.map (spots ++ taken) w.disk (2 ^ 64 - 1) =
    map_there taken spots c.loop-at.maps w.disk c.remove-kept.result c.in_ok-map.map c.loop-at.invariant.maps c.remove-kept.ensures.value c.in_ok-map.ensures in
    record {
      so_far = placed_more taken c.args.wanted.now c.loop-at.at spots c.push.new.self.items w d c.in-Some.start c.loop-at-test.true refl (c.in-Some.ensures.first (spots ++ taken) are) c.in_ok-push.ensures.items c.loop-at.invariant.so_far;
      maps = maps_more taken spots c.push.new.self.items c.loop-at.maps c.remove-kept.new.self c.insert.new.self (placing w c.in-Some.start) c.fit.new.map c.loop-at.invariant.maps c.remove-kept.ensures.updates c.in_ok-insert.ensures.updates
          (c.in-Some.ensures.left (spots ++ taken) are) c.in_ok-push.ensures.items;
    }

pub returns : goal.returns
returns c = grind (arith, common_steps, placed_all, maps_ended)
