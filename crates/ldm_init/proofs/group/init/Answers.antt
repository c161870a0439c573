use Rattle.std.proofs.Common.{◌∙◌, ◌<◌, ◌≤◌, ℕ, List, map, refl, length, inl, Some, None, Result, is_err, sym, ap, subst, arith}
use Rattle.ldm_host.proofs.Relations.{looks_settles, looks_works, works_then, moments_trans}
use Rattle.ldm_body.proofs.RewriteLaws.{on_ok_map}
use Rattle.ldm_label.specs.Fields.{sectors_of}
use Rattle.ldm_init.specs.Images.{IsInitMoment, NothingPending}
use Rattle.ldm_init.specs.declared.faults.InitError.{InitError}
use Rattle.ldm_init.specs.Faults.{IsInitFault}
use Rattle.ldm_init.specs.Moments.{MayBeReady, before_of}
use Rattle.ldm_init.specs.NewGroup.{new_labels}
use Rattle.ldm_init.proofs.GroupLaws.{labels_count}
use Rattle.ldm_init.proofs.InitLaws.{all_take, all_on, body_as, each_writable, making_moment, takes_then, writes_as, written_before, signed_holds, new_images, apart, begins_writing, clear, one_fault, still_moment, written_answers}
use Rattle.ldm_init.proofs.MomentLaws.{underway_still}
use Rattle.ldm_init.proofs.group.init.Goals as goal

pub returns-in_err-plan-clause-any_moment : goal.returns-in_err-plan-clause-any_moment
returns-in_err-plan-clause-any_moment g c tells nothing empty images text left =
    let old = g.H.Host.seen c.args.host.now in
    let new = g.H.Host.seen c.prepare.new.host in
    let some : 0 < length old.sizes = (let some = c.requires.words.some in omega (arith, some, c.requires.count)) in
    still_moment old c.args.disks.now (g.met.H.Host.one_each tells c.args.host.now) (g.met.H.Host.lengths tells c.args.host.now) empty nothing c.args.name.now c.args.guid some images text
    ((looks_settles c.prepare.ensures.looks).moments images text left)

pub write_plan-requires-clause-count : goal.write_plan-requires-clause-count
write_plan-requires-clause-count g c =
    let old = g.H.Host.seen c.args.host.now in
    ap length (c.in_ok-plan.ensures.labels ∙ ap (new_labels old.sizes) c.as_slice-2.ensures) ∙ labels_count old.sizes c.args.disks.now ∙ c.requires.count ∙ sym (ap length c.prepare.ensures.looks.still.later.sizes)

pub write_plan-requires-clause-takes : goal.write_plan-requires-clause-takes
write_plan-requires-clause-takes g c =
    let old = g.H.Host.seen c.args.host.now in
    let guids = c.args.disks.now in
    let body = body_as c.args.guid c.in_ok-plan.plan.body c.as_slice.ensures c.as_slice-2.ensures c.in_ok-plan.ensures.body in
    let labels_are = c.in_ok-plan.ensures.labels ∙ ap (new_labels old.sizes) c.as_slice-2.ensures in
    takes_then c.in_ok-plan.plan.body labels_are c.prepare.ensures.looks.still.later.sizes
    (all_take c.args.name.now c.args.guid guids old.sizes c.in_ok-plan.plan.body c.requires.words c.requires.count body (each_writable labels_are c.in_ok-plan.ensures.writable) c.in_ok-plan.ensures.large)

pub returns : goal.returns
returns g c =
    let old = g.H.Host.seen c.args.host.now in
    let mid = g.H.Host.seen c.prepare.new.host in
    let new = g.H.Host.seen c.write_plan.new.host in
    let name = c.args.name.now in
    let guid = c.args.guid in
    let guids = c.args.disks.now in
    let labels = new_labels old.sizes guids in
    let looks = c.prepare.ensures.looks in
    let bytes = c.in_ok-plan.plan.body in
    let body = body_as guid bytes c.as_slice.ensures c.as_slice-2.ensures c.in_ok-plan.ensures.body in
    let labels_are = c.in_ok-plan.ensures.labels ∙ ap (new_labels old.sizes) c.as_slice-2.ensures in
    let writes = writes_as mid new {body = bytes} labels_are refl c.write_plan.ensures.writes in
    let sizes = writes.works.later.sizes ∙ looks.still.later.sizes in
    let counts = λ (tells : g.H.Host.tells_disks). g.met.H.Host.one_each tells c.args.host.now in
    let lengths = λ (tells : g.H.Host.tells_disks). g.met.H.Host.lengths tells c.args.host.now in
    let none = λ (tells : g.H.Host.tells_disks). subst (λ (l : List ℕ). IsInitFault l old.content None) c.as_slice-2.ensures (c.in_ok-plan.ensures.empty tells) in
    let some : 0 < length old.sizes = (let some = c.requires.words.some in omega (arith, some, c.requires.count)) in
    let few : length labels ≤ length old.sizes = omega (arith, labels_count old.sizes guids, c.requires.count) in
    let on = all_on name guid guids old.sizes bytes c.requires.words c.requires.count body in
    let begun = λ (tells : g.H.Host.tells_disks) (nothing : NothingPending old) (empty : IsInitFault guids old.content None).
    underway_still labels (before_of old) (MayBeReady body.db labels (before_of old) 0) old mid looks (begins_writing old guids (counts tells) (lengths tells) empty nothing body.db labels few) in
    record {
      answers = λ tells. written_answers guids old.content c.write_plan.result (none tells) c.write_plan.ensures.not_refused;
      unwritten = inl c.write_plan.ensures.not_refused;
      faulty = λ tells fault is. absurd (let e = one_fault guids (map sectors_of old.content) old.content (Some fault) None is (none tells) in cc);
      any_moment = λ tells nothing empty. moments_trans old mid new (λ images text. IsInitMoment name guid guids old images text) looks.still.later writes.works.later
          (λ images text left. still_moment old guids (counts tells) (lengths tells) empty nothing name guid some images text ((looks_settles looks).moments images text left))
          (λ images text left.
          making_moment name guid guids old.sizes bytes c.requires.words c.requires.count body c.new_groups_open.ensures.editable old refl (apart old guids (counts tells) (lengths tells) empty) images text
          (writes.any_moment tells body.db (before_of old) on (begun tells nothing empty) images text left));
      images = λ tells. on_ok_map c.write_plan.result _ _ (λ written.
          new_images name guid guids old.sizes bytes c.requires.words c.requires.count body old.content new.content
          (all_take name guid guids old.sizes bytes c.requires.words c.requires.count body (each_writable labels_are c.in_ok-plan.ensures.writable) c.in_ok-plan.ensures.large)
          (g.met.H.Host.one_each tells c.write_plan.new.host ∙ ap length sizes ∙ sym (counts tells)) (lengths tells) (clear old guids (counts tells) (lengths tells) (none tells))
          (written_before bytes labels old.content mid.content new.content looks.still.content written))
          (writes.written tells);
      holds = λ tells nothing. on_ok_map c.write_plan.result _ _ (λ done.
          signed_holds name guid guids old.sizes bytes c.requires.words c.requires.count body c.new_groups_open.ensures.editable old refl (apart old guids (counts tells) (lengths tells) (none tells)) new
          (g.met.H.Host.one_each tells c.write_plan.new.host ∙ ap length sizes) (g.met.H.Host.may_stay tells c.write_plan.new.host) sizes
          (done body.db (before_of old) on (begun tells nothing (none tells))))
          (writes.done tells);
      settled = writes.settled;
      works = works_then (looks_works looks) writes.works (λ is. ap (λ (r : Result (Unit {0}) InitError). is_err r) is);
    }
