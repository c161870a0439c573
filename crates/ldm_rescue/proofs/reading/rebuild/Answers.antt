use Rattle.std.proofs.Common.{rules, ◌<◌, ℕ, [], List, arith, length, map, fold, bit_xor, slice_index, ap, sym, subst, ◌∙◌, Option, Contains}
use Rattle.std.specs.Option.{option_to_list}
use Rattle.ldm_host.proofs.Relations.{looks_then}
use Rattle.ldm_places.specs.Columns.{columns_of}
use Rattle.ldm_dump.specs.declared.spots.Spot.{Spot}
use Rattle.ldm_dump.specs.Sources.{other_spot, other_spots}
use Rattle.ldm_dump.specs.Bytes.{byte_at}
use Rattle.ldm_dump.proofs.ReadLaws.{join_step, same_bytes}
use Rattle.ldm_rescue.specs.Rescued.{FailedOn}
use Rattle.ldm_rescue.proofs.ListLaws.{made_part, contains_first}
use Rattle.ldm_rescue.proofs.RescueLaws.{failed_on_sooner}
use Rattle.ldm_rescue.proofs.reading.rebuild.Goals as goal

pub join_other-requires-clause-has : goal.join_other-requires-clause-has
join_other-requires-clause-has g c s is =
    let f = other_spot c.args.found.now c.args.plan.now c.args.sector in
    same_bytes _ _ s _ _ c.columns.invariant.looks.still.later.sizes (omega arith)
    (c.requires.has s (made_part f (length (columns_of c.args.plan.now)) c.columns.column s (omega (arith, c.columns-column-end.ensures.count, c.columns-test.true))
    (subst (λ (o : Option Spot). Contains (option_to_list o) s) (sym is) (contains_first s []))))

pub returns-in_err-join_other-clause-failed : goal.returns-in_err-join_other-clause-failed
returns-in_err-join_other-clause-failed g c tells =
    let f = other_spot c.args.found.now c.args.plan.now c.args.sector in
    let all = other_spots c.args.found.now c.args.plan.now c.args.sector in
    let old = g.H.Host.seen c.args.host.now in
    let mid = g.H.Host.seen c.columns.host in
    let new = g.H.Host.seen c.join_other.new.host in
    let on : FailedOn all (length c.args.out.now) old.failed new.failed c.in_err-join_other.field-0.0 =
    failed_on_sooner (option_to_list (f c.columns.column)) all (length c.columns.out) (length c.args.out.now) old.failed mid.failed new.failed c.in_err-join_other.field-0.0
    (c.in_err-join_other.ensures.failed tells) c.columns.invariant.looks.still.later.failed c.in_err-join_other.ensures.looks.still.later.failed
    (λ s part. made_part f (length (columns_of c.args.plan.now)) c.columns.column s (omega (arith, c.columns-column-end.ensures.count, c.columns-test.true)) part)
    (omega arith) in
    search (rules, on)

pub returns-in_err-join_other-clause-looks : goal.returns-in_err-join_other-clause-looks
returns-in_err-join_other-clause-looks g c = looks_then c.columns.invariant.looks c.in_err-join_other.ensures.looks (λ is. is)

pub columns-preserved : goal.columns-preserved
columns-preserved g c = record {
  looks = looks_then c.columns.invariant.looks c.in_ok-join_other.ensures.looks (λ is. is);
  bytes = λ tells j lt.
      let low : j < length c.columns.out = omega (arith, lt) in
      let f = other_spot c.args.found.now c.args.plan.now c.args.sector in
      c.in_ok-join_other.ensures.bytes tells j low
      ∙ (ap (λ (images : List (List ℕ)). fold bit_xor (slice_index c.columns.out j) (map (byte_at images j) (option_to_list (f c.columns.column)))) c.columns.invariant.looks.still.content
      ∙ join_step (g.H.Host.seen c.args.host.now).content f c.columns.column j (slice_index c.columns.out j) (c.columns.invariant.bytes tells j low));
}
