use Rattle.std.proofs.Common.{ℕ, List, refl, sym, subst, arith}
use Rattle.std.proofs.lemmas.Bool.{eqb-true}
use Rattle.std.proofs.lemmas.List.{take_all}
use Rattle.ldm_changed.specs.Plan.{has_record}
use Rattle.ldm_changed.proofs.PlanLaws.{IsAddedUpTo, added_none, room_for, added_step}
use Rattle.ldm_changed.proofs.planning.write_made.Goals as goal

pub add_if_new-requires-clause-room : goal.add_if_new-requires-clause-room
add_if_new-requires-clause-room c =
    let old = c.args.old.now.records in
    let r = c.index-records-j.result in
    let le = room_for c.args.records.now old c.args.free.now c.loop-j.j r c.loop-j-test.true (sym c.index-records-j.is) (has_record old r) refl in
    omega (arith, le, c.loop-j.invariant.at_is, c.requires.room)

pub loop-j-init : goal.loop-j-init
loop-j-init c =
    subst (λ (m : List (List ℕ)). IsAddedUpTo c.args.records.now c.args.old.now.records c.args.free.now 0 c.args.out.now c.args.out.now 0 m) (sym c.new-made.ensures.items)
    (added_none c.args.records.now c.args.old.now.records c.args.free.now c.args.out.now (λ k lt. eqb-true _ 0 (c.requires.free k 0 lt)))

pub loop-j-preserved : goal.loop-j-preserved
loop-j-preserved c =
    let old = c.args.old.now.records in
    let r = c.index-records-j.result in
    let le = room_for c.args.records.now old c.args.free.now c.loop-j.j r c.loop-j-test.true (sym c.index-records-j.is) (has_record old r) refl in
    added_step c.args.records.now old c.args.free.now c.loop-j.j r c.loop-j-test.true (sym c.index-records-j.is) c.args.out.now c.loop-j.out c.add_if_new.new.out c.loop-j.at c.in_ok-at.at
    c.loop-j.made.items c.add_if_new.new.made.items (has_record old r) (omega (arith, c.add_if_new.auto.out)) (omega (arith, c.loop-j.auto.out, c.requires.small)) c.requires.apart c.requires.within
    (omega (arith, le, c.loop-j.invariant.at_is, c.requires.room)) refl (λ yes. c.add_if_new.ensures.there yes) c.in_ok-at.ensures.adds c.loop-j.invariant

pub returns : goal.returns
returns c =
    let all = take_all c.loop-j.j c.args.records.now c.loop-j-test.false in
    let w = c.loop-j.invariant in
    record {
      one_each = rw all at w.one_each;
      holds = rw all at w.holds;
      others = rw (w.at_is, all) at w.others;
      sound = rw all at w.sound;
      there = rw all at w.there;
    }
