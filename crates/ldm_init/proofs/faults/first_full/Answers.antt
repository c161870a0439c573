use Rattle.std.proofs.Common.{refl, [], ◌<◌, length, sym, ◌∙◌, arith}
use Rattle.std.proofs.lemmas.Bool.{true≢false}
use Rattle.ldm_host.proofs.Relations.{looks_then}
use Rattle.ldm_init.specs.Faults.{IsFull}
use Rattle.ldm_init.proofs.InitLaws.{none_further, found_here, none_at_all}
use Rattle.ldm_init.proofs.faults.first_full.Goals as goal

pub returns-then-not-branch-clause-is : goal.returns-then-not-branch-clause-is
returns-then-not-branch-clause-is g c tells =
    let content = (g.H.Host.seen c.args.host.now).content in
    let lt : c.loop-disk.disk < length content = omega (arith, g.met.H.Host.one_each tells c.args.host.now, c.disks-disk-end.ensures, c.loop-disk-test.true) in
    let is = rw c.loop-disk.invariant.looks.still.content at (c.in_ok-is_empty.ensures.is tells) in
    found_here IsFull content c.loop-disk.disk [] lt (c.loop-disk.invariant.before tells) (sym is ∙ c.if-not-branch.true)

pub loop-disk-preserved : goal.loop-disk-preserved
loop-disk-preserved g c =
    let start = g.H.Host.seen c.args.host.now in
    record {
      looks = looks_then c.loop-disk.invariant.looks c.in_ok-is_empty.ensures.looks (λ is. absurd is);
      before = λ tells.
          let lt : c.loop-disk.disk < length start.content = omega (arith, g.met.H.Host.one_each tells c.args.host.now, c.disks-disk-end.ensures, c.loop-disk-test.true) in
          let is = rw c.loop-disk.invariant.looks.still.content at (c.in_ok-is_empty.ensures.is tells) in
          none_further IsFull start.content c.loop-disk.disk [] lt (c.loop-disk.invariant.before tells) (λ full. true≢false (sym c.if-not-branch.false ∙ is ∙ full));
    }

pub returns-clause-is : goal.returns-clause-is
returns-clause-is g c tells =
    let content = (g.H.Host.seen c.args.host.now).content in
    none_at_all IsFull content c.loop-disk.disk (omega (arith, g.met.H.Host.one_each tells c.args.host.now, c.disks-disk-end.ensures, c.loop-disk-test.false)) (c.loop-disk.invariant.before tells)

pub returns-in_err-is_empty-clause-looks : goal.returns-in_err-is_empty-clause-looks
returns-in_err-is_empty-clause-looks g c = looks_then c.loop-disk.invariant.looks c.in_err-is_empty.ensures.looks (λ is. refl)

pub returns-then-not-branch-clause-looks : goal.returns-then-not-branch-clause-looks
returns-then-not-branch-clause-looks g c = looks_then c.loop-disk.invariant.looks c.in_ok-is_empty.ensures.looks (λ failed. absurd (cc failed))
