use Rattle.std.proofs.Common.{arith}
use Rattle.ldm_body.specs.Finding.{table_place}
use Rattle.ldm_body.proofs.FindLaws.{slots_more, slots_done}
use Rattle.ldm_body.proofs.finding.slots_in.Goals as goal

pub loop-part-preserved : goal.loop-part-preserved
loop-part-preserved c =
    slots_more (table_place c.args.places.now c.args.number) c.args.number c.loop-part.part c.place_in.result c.loop-part.items.items c.push-in-loop-part.new.self.items c.loop-part.auto.part c.loop-part.invariant c.in_ok-push-2.ensures.items c.place_in.ensures

pub returns : goal.returns
returns c =
    slots_done (table_place c.args.places.now c.args.number) c.args.number c.args.parts c.loop-part.part c.from_vec.result c.loop-part.items.items c.from_vec.ensures
    (omega (arith, c.loop-part-test.false, c.loop-part.auto.part-end c.requires.some)) c.loop-part.invariant
