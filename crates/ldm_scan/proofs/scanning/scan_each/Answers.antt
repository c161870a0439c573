use Rattle.std.proofs.Common.{◌≡◌, ◌∙◌, ◌+◌, ◌-◌, ◌≤◌, ◌++◌, ◌∷◌, [], ℕ, List, Option, drop, length, refl, sym, ap, subst, arith}
use Rattle.ldm_host.specs.Seen.{Seen}
use Rattle.ldm_host.proofs.Relations.{still_itself, quiet_trans}
use Rattle.ldm_scan.specs.declared.finding.Finding.{Finding}
use Rattle.ldm_host.specs.Failed.{failed_since}
use Rattle.ldm_scan.specs.Findings.{disks_of, opened_count, IsFinding, AreFindings}
use Rattle.ldm_scan.proofs.FailLaws.{both_still, none_failed, same_sizes}
use Rattle.ldm_scan.proofs.FindingLaws.{Continues, continues_host, findings_whole, none_ahead, none_left, ok_at, rest_is}
use Rattle.ldm_scan.proofs.scanning.scan_each.Goals as goal

pub loop-cause-init : goal.loop-cause-init
loop-cause-init g c =
    let host = c.args.host in
    let disks = c.disks-disks.result in
    let none : disks - disks ≡ 0 = omega arith in
    record {
      still = ∣ still_itself (g.H.Host.seen host) (g.met.H.Host.counts_now host) (g.met.H.Host.only_now host) ∣₁;
      quiet = record { said = refl; heard = refl; input = refl };
      left = c.disks-disks.ensures ∙ sym c.requires;
      most = omega arith;
      ahead = λ tells d le. none_failed d (g.H.Host.seen host).failed (g.H.Host.seen host).failed refl;
      found = λ tells later more same are.
          subst (λ (l : List Finding). AreFindings later (g.H.Host.seen host).content 0 c.args.causes.now (l ++ more)) (sym c.new-findings.ensures.items)
          (subst (λ (n : ℕ). AreFindings later (g.H.Host.seen host).content n c.args.causes.now more) none are);
    }

pub scan_next-next-requires : goal.scan_next-next-requires
scan_next-next-requires g c =
    let cause = c.cause-item.result in
    let rest = rest_is c.args.causes.now c.loop-cause.cause-index cause c.loop-cause-test.true c.cause-item.is in
    let more : opened_count (drop c.loop-cause.cause-index c.args.causes.now) ≡ disks_of cause + opened_count (drop (c.loop-cause.cause-index + 1) c.args.causes.now) = ap opened_count rest in
    let sizes = same_sizes (g.H.Host.seen c.args.host) (g.H.Host.seen c.loop-cause.host) c.loop-cause.invariant.still in
    omega (arith, more, ap length sizes, c.loop-cause.invariant.left, c.loop-cause.invariant.most, c.disks-disks.ensures)

pub returns-in-Err-clause-still : goal.returns-in-Err-clause-still
returns-in-Err-clause-still g c =
    both_still (g.H.Host.seen c.args.host) (g.H.Host.seen c.loop-cause.host) (g.H.Host.seen c.scan_next-next.result.0) c.loop-cause.invariant.still c.scan_next-next.ensures.still

pub loop-cause-preserved : goal.loop-cause-preserved
loop-cause-preserved g c = record {
  still = both_still start old new c.loop-cause.invariant.still c.scan_next-next.ensures.still;
  quiet = quiet_trans start old new c.loop-cause.invariant.quiet c.scan_next-next.ensures.quiet;
  left = omega (arith, more, taken, c.loop-cause.invariant.left);
  most = omega (arith, taken, c.loop-cause.invariant.most);
  ahead = λ tells d le. none_ahead start old new c.loop-cause.invariant.still c.scan_next-next.ensures.still d
      (c.loop-cause.invariant.ahead tells d (omega (arith, le, number)))
      (c.scan_next-next.ensures.later tells d (omega (arith, le, number)));
  found = λ tells.
      let here = ok_at c.scan_next-next.result.1 (IsFinding (failed_since old new) old.content disk cause) finding c.in_default.ensures.found.1 (c.scan_next-next.ensures.is tells) in
      let before = subst (λ (l : List (Option (List ℕ))). Continues (failed_since start old) start.content disk l c.args.causes.now c.loop-cause.findings.items) rest (c.loop-cause.invariant.found tells) in
      subst (λ (l : List Finding). Continues (failed_since start new) start.content (disks - (left - c.disks_of-left.result)) behind c.args.causes.now l) (sym items)
      (subst (λ (n : ℕ). Continues (failed_since start new) start.content n behind c.args.causes.now (c.loop-cause.findings.items ++ finding ∷ [])) number
      (continues_host start old new c.loop-cause.invariant.still c.scan_next-next.ensures.still disk cause behind c.args.causes.now c.loop-cause.findings.items finding
      (c.loop-cause.invariant.ahead tells) (c.scan_next-next.ensures.earlier tells) here before));
}
  where
    start : Seen
    start = g.H.Host.seen c.args.host

    old : Seen
    old = g.H.Host.seen c.loop-cause.host

    new : Seen
    new = g.H.Host.seen c.scan_next-next.result.0

    disks : ℕ
    disks = c.disks-disks.result

    left : ℕ
    left = c.loop-cause.left

    disk : ℕ
    disk = disks - left

    cause : Option (List ℕ)
    cause = c.cause-item.result

    behind : List (Option (List ℕ))
    behind = drop (c.loop-cause.cause-index + 1) c.args.causes.now

    rest : drop c.loop-cause.cause-index c.args.causes.now ≡ cause ∷ behind
    rest = rest_is c.args.causes.now c.loop-cause.cause-index cause c.loop-cause-test.true c.cause-item.is

    more : opened_count (drop c.loop-cause.cause-index c.args.causes.now) ≡ disks_of cause + opened_count behind
    more = ap opened_count rest

    taken : c.disks_of-left.result ≡ disks_of cause
    taken = c.disks_of-left.ensures

    number : disk + disks_of cause ≡ disks - (left - c.disks_of-left.result)
    number = omega (arith, more, taken, c.loop-cause.invariant.left, c.loop-cause.invariant.most)

    finding : Finding
    finding = c.in_default.ensures.found.0

    items : c.note.new.findings.items ≡ c.loop-cause.findings.items ++ finding ∷ []
    items = ok_at c.scan_next-next.result.1 (λ f. c.note.new.findings.items ≡ c.loop-cause.findings.items ++ f ∷ []) finding c.in_default.ensures.found.1 c.in_default.ensures.noted

pub returns-clause-is : goal.returns-clause-is
returns-clause-is g c tells =
    findings_whole (failed_since (g.H.Host.seen c.args.host) (g.H.Host.seen c.loop-cause.host)) (g.H.Host.seen c.args.host).content (c.disks-disks.result - c.loop-cause.left)
    (drop c.loop-cause.cause-index c.args.causes.now) c.args.causes.now c.loop-cause.findings.items
    (none_left c.args.causes.now c.loop-cause.cause-index c.loop-cause-test.false) (c.loop-cause.invariant.found tells)
