use Rattle.std.proofs.Common.{rules, ◌+◌, ◌<◌, ◌≤◌, List, [], length, length-append, take, Ok, sym, ap, subst, arith}
use Rattle.std.proofs.lemmas.List.{take_all}
use Rattle.ldm_host.proofs.Relations.{looks_then}
use Rattle.ldm_label.specs.declared.Label.{Label}
use Rattle.ldm_found.specs.Gathers.{Gathers}
use Rattle.ldm_found.specs.Labels.{IsLabelOf}
use Rattle.ldm_label.proofs.ReadLaws.{handed_on}
use Rattle.ldm_found.proofs.DiskLaws.{AllFit, fit_more, label_fault}
use Rattle.ldm_found.proofs.CopyLaws.{gather_next}
use Rattle.ldm_found.proofs.disks.read_labels.Goals as goal

pub returns-in_err-label_at-clause-is : goal.returns-in_err-label_at-clause-is
returns-in_err-label_at-clause-is g c tells =
    let content = (g.H.Host.seen c.args.host.now).content in
    let lt : c.loop-disk.disk < length content = omega (arith, g.met.H.Host.one_each tells c.args.host.now, c.disks-count.ensures, c.loop-disk-test.true) in
    rw (handed_on c.from_residual.result c.in_err-label_at.field-0.0 c.from_residual.ensures.1)
    (label_fault content (g.H.Host.seen c.loop-disk.host).content c.loop-disk.disk c.loop-disk.labels.items c.in_err-label_at.field-0.0
    c.loop-disk.invariant.looks.still.content lt (c.loop-disk.invariant.labels tells) (c.in_err-label_at.ensures.is tells))

pub returns-in_err-label_at-clause-looks : goal.returns-in_err-label_at-clause-looks
returns-in_err-label_at-clause-looks g c = looks_then c.loop-disk.invariant.looks c.in_err-label_at.ensures.looks (λ is. search rules)

pub returns-in_err-push-clause-looks : goal.returns-in_err-push-clause-looks
returns-in_err-push-clause-looks g c = looks_then c.loop-disk.invariant.looks c.in_ok-label_at.ensures.looks (λ is. search rules)

pub loop-disk-preserved : goal.loop-disk-preserved
loop-disk-preserved g c =
    let start = g.H.Host.seen c.args.host.now in
    record {
      looks = looks_then c.loop-disk.invariant.looks c.in_ok-label_at.ensures.looks (λ is. absurd is);
      one_each = omega (arith, ap length c.in_ok-push.ensures.items, length-append {A = Label}, c.loop-disk.invariant.one_each);
      fit =
          let here = rw c.loop-disk.invariant.looks.still.later.sizes at c.in_ok-label_at.ensures.fits in
          subst (λ (l : List Label). AllFit l start.sizes) (sym c.in_ok-push.ensures.items)
          (fit_more c.loop-disk.labels.items start.sizes c.in_ok-label_at.field-0 c.loop-disk.disk c.loop-disk.invariant.one_each c.loop-disk.invariant.fit here);
      labels = λ tells.
          let lt : c.loop-disk.disk < length start.content = omega (arith, g.met.H.Host.one_each tells c.args.host.now, c.disks-count.ensures, c.loop-disk-test.true) in
          let reads = rw c.loop-disk.invariant.looks.still.content at (c.in_ok-label_at.ensures.is tells) in
          subst (λ (l : List Label). Gathers IsLabelOf (take (c.loop-disk.disk + 1) start.content) (Ok l)) (sym c.in_ok-push.ensures.items)
          (gather_next IsLabelOf start.content c.loop-disk.disk c.loop-disk.labels.items [] c.in_ok-label_at.field-0 lt (c.loop-disk.invariant.labels tells) reads);
    }

pub returns-clause-is : goal.returns-clause-is
returns-clause-is g c tells =
    let content = (g.H.Host.seen c.args.host.now).content in
    let le : length content ≤ c.loop-disk.disk = omega (arith, g.met.H.Host.one_each tells c.args.host.now, c.disks-count.ensures, c.loop-disk-test.false) in
    let all = rw (take_all c.loop-disk.disk content le) at (c.loop-disk.invariant.labels tells) in
    subst (λ (l : List Label). Gathers IsLabelOf content (Ok l)) (sym c.from_vec.ensures) all
