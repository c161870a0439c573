use Rattle.std.proofs.Common.{◌≡◌, ◌≢◌, ◌∙◌, ℕ, List, length, slice_get, Some, refl, ap, sym, subst, arith, unwrap_or, ⊎_elim}
use Rattle.std.proofs.lemmas.Bool.{cases_eq}
use Rattle.std.proofs.lemmas.Option.{slice_get-get_or, slice_get_within}
use Rattle.ldm_host.proofs.Relations.{works_itself, works_then, moments_trans}
use Rattle.ldm_host.specs.Seen.{image}
use Rattle.ldm_init.specs.Bytes.{IsUnsignedImage}
use Rattle.ldm_init.specs.Moments.{IsMaking, IsReadyToSign, IsWriting}
use Rattle.ldm_init.proofs.MomentLaws.{writing_moments, writing_next, writing_now, kept_signature, kept_beside, takes_as, written_as}
use Rattle.ldm_init.proofs.making.write_all.Goals as goal

pub disks-init : goal.disks-init
disks-init g c =
    let host = g.H.Host.seen c.args.host.now in
    record {
      works = works_itself host (g.met.H.Host.counts_now c.args.host.now) (g.met.H.Host.only_now c.args.host.now);
      size = c.requires.size;
      moments = λ tells db start bodies so images said left.
          let now = g.met.H.Host.only_now c.args.host.now images said left in
          writing_now db c.args.labels.now start 0 host images said so now.0 now.1;
      so_far = λ tells db start bodies so. so;
      written = λ tells disk label at lt. absurd (omega (arith, lt));
      others = λ tells disk le. refl;
    }

pub write_disk-requires-clause-takes : goal.write_disk-requires-clause-takes
write_disk-requires-clause-takes g c =
    let at = slice_get-get_or c.args.labels.now c.disks.disk _ c.disks-test.true in
    takes_as _ c.args.body.now _ _ c.disks.disk c.disks.invariant.works.later.sizes (c.requires.takes c.disks.disk _ at)

pub returns-in_err-write_disk-clause-any_moment : goal.returns-in_err-write_disk-clause-any_moment
returns-in_err-write_disk-clause-any_moment g c tells db start bodies begun =
    let old = g.H.Host.seen c.args.host.now in
    let mid = g.H.Host.seen c.disks.host in
    let new = g.H.Host.seen c.write_disk.new.host in
    let so = c.disks.invariant in
    let at = slice_get-get_or c.args.labels.now c.disks.disk _ c.disks-test.true in
    let takes = c.requires.takes c.disks.disk _ at in
    moments_trans old mid new (λ images said. IsMaking db c.args.labels.now start images said) so.works.later c.write_disk.ensures.changes.later (so.moments tells db start bodies begun)
    (writing_moments _ (kept_signature _ _ takes.fits) db c.args.labels.now start c.disks.disk (kept_beside _ c.args.body.now start.sizes old.sizes c.disks.disk (sym begun.sizes) takes) mid new
    (so.so_far tells db start bodies begun) c.write_disk.ensures.changes)

pub disks-preserved : goal.disks-preserved
disks-preserved g c =
    let old = g.H.Host.seen c.args.host.now in
    let mid = g.H.Host.seen c.disks.host in
    let new = g.H.Host.seen c.write_disk.new.host in
    let so = c.disks.invariant in
    let n = c.disks.disk in
    let at = slice_get-get_or c.args.labels.now n _ c.disks-test.true in
    let takes = c.requires.takes n _ at in
    let kept = kept_signature _ _ takes.fits in
    let changes = c.write_disk.ensures.changes in
    record {
      works = works_then {Q = ⊥} so.works (record { later = changes.later; quiet = changes.quiet; cause = λ is. absurd is }) (λ is. is);
      size = c.write_disk.ensures.size;
      moments = λ tells db start bodies begun. moments_trans old mid new (λ images said. IsMaking db c.args.labels.now start images said) so.works.later changes.later (so.moments tells db start bodies begun)
          (writing_moments _ kept db c.args.labels.now start n (kept_beside _ c.args.body.now start.sizes old.sizes n (sym begun.sizes) takes) mid new (so.so_far tells db start bodies begun) changes);
      so_far = λ tells db start bodies begun. writing_next _ kept db c.args.labels.now start n (kept_beside _ c.args.body.now start.sizes old.sizes n (sym begun.sizes) takes) mid new
          (so.so_far tells db start bodies begun) changes c.in_ok-write_disk.ensures.settled
          (λ label here. (let same = sym at ∙ here in subst (λ l. IsReadyToSign db l (image new.content n)) (ap (λ o. unwrap_or o label) same) (c.in_ok-write_disk.ensures.ready tells db (bodies n _ at))));
      written = λ tells disk label here lt. ⊎_elim
          (λ (same : disk ≡ n).
          let at_n : slice_get c.args.labels.now n ≡ Some label = subst (λ (d : ℕ). slice_get c.args.labels.now d ≡ Some label) same here in
          let is = ap (λ o. unwrap_or o label) (sym at ∙ at_n) in
          subst (λ (d : ℕ). IsUnsignedImage label c.args.body.now (image old.content d) (image new.content d)) (sym same)
          (written_as _ label c.args.body.now (image mid.content n) (image old.content n) (image new.content n) is (so.others tells n (omega arith)) (c.in_ok-write_disk.ensures.written tells)))
          (λ (apart : disk ≢ n).
          subst (λ (x : List ℕ). IsUnsignedImage label c.args.body.now (image old.content disk) x) (sym (changes.content.others disk apart)) (so.written tells disk label here (omega (arith, lt, apart))))
          (cases_eq disk n);
      others = λ tells disk le. changes.content.others disk (λ same. omega (arith, le, same)) ∙ so.others tells disk (omega (arith, le));
    }

pub returns-clause-done : goal.returns-clause-done
returns-clause-done g c tells db start bodies begun =
    let all : c.disks.disk ≡ length c.args.labels.now = omega arith in
    subst (λ (n : ℕ). IsWriting db c.args.labels.now start n (g.H.Host.seen c.disks.host)) all (c.disks.invariant.so_far tells db start bodies begun)

pub returns-clause-written : goal.returns-clause-written
returns-clause-written g c tells disk label at =
    let within = slice_get_within c.args.labels.now disk label at in
    c.disks.invariant.written tells disk label at (omega (arith, within))

pub returns-in_err-write_disk-clause-works : goal.returns-in_err-write_disk-clause-works
returns-in_err-write_disk-clause-works g c =
    let changes = c.write_disk.ensures.changes in
    works_then c.disks.invariant.works (record { later = changes.later; quiet = changes.quiet; cause = c.in_err-write_disk.ensures.cause }) (λ failed. refl)
