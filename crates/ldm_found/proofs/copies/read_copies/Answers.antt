use Rattle.std.proofs.Common.{rules, ◌≡◌, length, length-append, ap, arith}
use Rattle.std.proofs.lemmas.Option.{slice_get-get_or}
use Rattle.ldm_host.proofs.Relations.{looks_then}
use Rattle.ldm_copy.specs.declared.notes.Note.{Note}
use Rattle.ldm_label.proofs.ReadLaws.{handed_on}
use Rattle.ldm_found.proofs.CopyLaws.{copies_next, copies_all, copy_fault, among_roomy}
use Rattle.ldm_found.proofs.copies.read_copies.Goals as goal

pub with_image-requires-clause-fits : goal.with_image-requires-clause-fits
with_image-requires-clause-fits g c =
    rw c.loop-disk.invariant.looks.still.later.sizes (c.requires.fits _ _ (slice_get-get_or c.args.labels.now c.loop-disk.disk _ c.loop-disk-test.true))

pub returns-in_err-next-clause-is : goal.returns-in_err-next-clause-is
returns-in_err-next-clause-is g c tells =
    let content = (g.H.Host.seen c.args.host.now).content in
    let one_each : length content ≡ length c.args.labels.now = omega (arith, g.met.H.Host.one_each tells c.args.host.now, c.requires.one_label) in
    rw (handed_on c.from_residual.result c.in_err-next.field-0.0 c.from_residual.ensures.1)
    (copy_fault c.args.labels.now content (g.H.Host.seen c.loop-disk.host).content c.loop-disk.disk _ c.loop-disk.newest c.loop-disk.notes.items c.in_err-next.field-0.0
    c.loop-disk.invariant.looks.still.content c.loop-disk-test.true one_each (c.loop-disk.invariant.copies tells) (c.in_err-next.ensures.is tells))

pub returns-in_err-next-clause-looks : goal.returns-in_err-next-clause-looks
returns-in_err-next-clause-looks g c =
    looks_then c.loop-disk.invariant.looks c.in_err-next.ensures.looks (λ is. search rules)

pub returns-in_err-push-clause-looks : goal.returns-in_err-push-clause-looks
returns-in_err-push-clause-looks g c = looks_then c.loop-disk.invariant.looks c.in_ok-next.ensures.looks (λ is. search rules)

pub loop-disk-preserved : goal.loop-disk-preserved
loop-disk-preserved g c =
    let start = g.H.Host.seen c.args.host.now in
    record {
      looks = looks_then c.loop-disk.invariant.looks c.in_ok-next.ensures.looks (λ is. absurd is);
      one_note = omega (arith, ap length c.in_ok-push.ensures.items, length-append {A = Note}, c.loop-disk.invariant.one_note);
      newest = c.in_ok-next.ensures.room;
      copies = λ tells.
          let one_each : length start.content ≡ length c.args.labels.now = omega (arith, g.met.H.Host.one_each tells c.args.host.now, c.requires.one_label) in
          copies_next c.args.labels.now start.content (g.H.Host.seen c.loop-disk.host).content c.loop-disk.disk _ c.loop-disk.newest _ c.loop-disk.notes.items c.push.new.self.items
          _ c.loop-disk.invariant.looks.still.content c.loop-disk-test.true one_each (c.in_ok-next.ensures.is tells) c.in_ok-push.ensures.items (c.loop-disk.invariant.copies tells);
    }

pub returns-clause-is : goal.returns-clause-is
returns-clause-is g c tells =
    let content = (g.H.Host.seen c.args.host.now).content in
    let one_each : length content ≡ length c.args.labels.now = omega (arith, g.met.H.Host.one_each tells c.args.host.now, c.requires.one_label) in
    copies_all c.args.labels.now content c.loop-disk.disk c.loop-disk.newest c.loop-disk.notes.items c.from_vec.result c.loop-disk-test.false one_each c.from_vec.ensures
    (c.loop-disk.invariant.copies tells)

pub returns-clause-room : goal.returns-clause-room
returns-clause-room g c = among_roomy c.loop-disk.newest c.loop-disk.disk c.loop-disk.invariant.newest
