use Rattle.std.proofs.Common.{◌≡◌, ℕ, List, ◌*◌, ◌+◌, sym, subst, arith, is_some, take, Option, Some, None, Bool, not, false, ◌==◌, ap, refl}
use Rattle.std.specs.Option.{IfSome, option_eq}
use Rattle.std.proofs.lemmas.Bool.{eqb-true, not-false}
use Rattle.ldm_host.proofs.Relations.{looks_then}
use Rattle.ldm_rescue.specs.Rescued.{sources_in_order, IsRescued, AreRescued, IsCause, nth_sector}
use Rattle.ldm_host.specs.Failed.{failed_since}
use Rattle.ldm_rescue.specs.declared.reading.Cause.{Cause}
use Rattle.ldm_rescue.specs.declared.reading.Cause.TheVariants.{Absent, Unread}
use Rattle.ldm_rescue.specs.contracts.reading.CausePartialEq as TheCauses
use Rattle.ldm_rescue.proofs.RescueLaws.{first_rescued, next_rescued, cause_one, cause_next, causes_covered, are_rescued_covered, covers_later, covers_sooner}
use Rattle.ldm_rescue.proofs.reading.rescue_singly.Goals as goal

same_cause : (a b : Option Cause) → false ≡ not (option_eq TheCauses.TheImpl.eq-value.it a b) → a ≡ b
same_cause None None h = refl
same_cause None (Some y) h = absurd cc
same_cause (Some x) None h = absurd cc
same_cause (Some (Absent x)) (Some (Absent y)) h = ap (λ (n : ℕ). Some (Absent n)) (eqb-true x y (not-false (x == y) (sym h)))
same_cause (Some (Unread x)) (Some (Unread y)) h = ap (λ (n : ℕ). Some (Unread n)) (eqb-true x y (not-false (x == y) (sym h)))
same_cause (Some (Absent x)) (Some (Unread y)) h = absurd cc
same_cause (Some (Unread x)) (Some (Absent y)) h = absurd cc

pub sectors-init : goal.sectors-init
sectors-init g c =
    let old = g.H.Host.seen c.args.host.now in
    let new = g.H.Host.seen c.rescue_into-lost.new.host in
    record {
      looks = c.rescue_into-lost.ensures.looks;
      some = omega arith;
      few = omega (arith, c.requires.room);
      bytes = λ tells. first_rescued old.content (failed_since old new) c.args.found.now c.args.plan.now c.args.sector (is_some c.rescue_into-lost.result) c.rescue_into-lost.new.out
          (omega (arith, c.requires.room, c.rescue_into-lost.auto.out)) (c.rescue_into-lost.ensures.bytes tells);
      cause = λ tells. cause_one c.args.found.now c.args.plan.now (failed_since old new) c.args.sector c.rescue_into-lost.result (c.rescue_into-lost.ensures.cause tells);
    }

pub returns-then-ne-clause-looks : goal.returns-then-ne-clause-looks
returns-then-ne-clause-looks g c = looks_then c.sectors.invariant.looks c.rescue_into-next.ensures.looks (λ is. is)

pub returns-then-ne-clause-bytes : goal.returns-then-ne-clause-bytes
returns-then-ne-clause-bytes g c tells =
    let old = g.H.Host.seen c.args.host.now in
    let mid = g.H.Host.seen c.sectors.host in
    let new = g.H.Host.seen c.rescue_into-next.new.host in
    let lost : ℕ → Bool = λ y. is_some c.rescue_into-lost.result in
    subst (λ (t : List ℕ). AreRescued old.content (failed_since old new) c.args.found.now c.args.plan.now c.args.sector c.sectors.count lost t) (sym c.rescue_into-next.ensures.front)
    (are_rescued_covered old.content (failed_since old mid) (failed_since old new) c.args.found.now c.args.plan.now c.args.sector c.sectors.count lost (take (512 * c.sectors.count) c.sectors.out)
    (covers_later old.failed mid.failed new.failed c.sectors.invariant.looks.still.later.failed c.rescue_into-next.ensures.looks.still.later.failed) (c.sectors.invariant.bytes tells))

pub returns-then-ne-clause-cause : goal.returns-then-ne-clause-cause
returns-then-ne-clause-cause g c tells =
    let old = g.H.Host.seen c.args.host.now in
    let mid = g.H.Host.seen c.sectors.host in
    let new = g.H.Host.seen c.rescue_into-next.new.host in
    causes_covered c.args.found.now c.args.plan.now (failed_since old mid) (failed_since old new) c.args.sector c.sectors.count c.rescue_into-lost.result
    (covers_later old.failed mid.failed new.failed c.sectors.invariant.looks.still.later.failed c.rescue_into-next.ensures.looks.still.later.failed) (c.sectors.invariant.cause tells)

pub sectors-preserved : goal.sectors-preserved
sectors-preserved g c =
    let old = g.H.Host.seen c.args.host.now in
    let mid = g.H.Host.seen c.sectors.host in
    let new = g.H.Host.seen c.rescue_into-next.new.host in
    let found = c.args.found.now in
    let l = c.args.plan.now in
    let first = c.sectors.invariant.looks.still.later.failed in
    let next = c.rescue_into-next.ensures.looks.still.later.failed in
    let later = covers_later old.failed mid.failed new.failed first next in
    let sooner = covers_sooner old.failed mid.failed new.failed first next in
    let same = same_cause c.rescue_into-next.result c.rescue_into-lost.result c.if-ne.ensures in
    record {
      looks = looks_then c.sectors.invariant.looks c.rescue_into-next.ensures.looks (λ is. is);
      some = omega arith;
      few = omega (arith, c.sectors-test.true);
      bytes = λ tells. next_rescued old.content (failed_since old mid) (failed_since mid new) (failed_since old new) found l c.args.sector c.sectors.count (is_some c.rescue_into-lost.result) c.sectors.out c.rescue_into-next.new.out
          later sooner (c.sectors.invariant.bytes tells) c.rescue_into-next.ensures.front (omega (arith, c.sectors-test.true, c.sectors.auto.out, c.rescue_into-next.auto.out))
          (subst (λ (images : List (List ℕ)). IsRescued images (failed_since mid new) (sources_in_order found l (c.args.sector + c.sectors.count)) (nth_sector c.rescue_into-next.new.out c.sectors.count) (is_some c.rescue_into-lost.result)) c.sectors.invariant.looks.still.content
          (subst (λ (o : Option Cause). IsRescued mid.content (failed_since mid new) (sources_in_order found l (c.args.sector + c.sectors.count)) (nth_sector c.rescue_into-next.new.out c.sectors.count) (is_some o)) same (c.rescue_into-next.ensures.bytes tells)));
      cause = λ tells. cause_next found l (failed_since old mid) (failed_since mid new) (failed_since old new) c.args.sector c.sectors.count c.rescue_into-lost.result later sooner (c.sectors.invariant.cause tells)
          (subst (λ (o : Option Cause). IfSome o (IsCause found l (failed_since mid new) (c.args.sector + c.sectors.count))) same (c.rescue_into-next.ensures.cause tells));
    }
