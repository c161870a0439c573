use Rattle.std.proofs.Common.{◌≡◌, ◌<◌, ℕ, List, length, min, sym, ◌∙◌, ap, subst, arith, take}
use Rattle.std.proofs.lemmas.List.{length-map, length-take}
use Rattle.ldm_memory.specs.declared.call.Call.{Call}
use Rattle.ldm_host.specs.Images.{items_of}
use Rattle.ldm_memory.specs.Left.{IsLastSync, written_on}
use Rattle.ldm_memory.specs.Story.{Disk}
use Rattle.ldm_memory.proofs.HeldLaws.{image_read}
use Rattle.ldm_memory.proofs.LeftLaws.{as_many, at_time, front_call, fresh_disk, last_content, now_is, takes, write_fits}
use Rattle.ldm_memory.proofs.memory.MemoryHost.last_synced.Goals as goal

pub index-requires : goal.index-requires
index-requires c = let m = c.args.self.now in omega (arith, c.requires, as_many m, length-map m.first.items (λ v. v.items))

pub loop-call-init : goal.loop-call-init
loop-call-init c =
    let m = c.args.self.now in
    let here = image_read m.first.items c.args.disk c.index.result.now (omega (arith, c.requires, as_many m, length-map m.first.items (λ v. v.items))) c.index.ensures in
    c.in_ok-image.ensures.is ∙ c.deref.ensures.value ∙ sym here ∙ sym (ap (λ (d : Disk). d.content) (fresh_disk (items_of m.first.items) c.args.disk))

pub take_again-requires : goal.take_again-requires
take_again-requires c = λ at asked bytes is.
    let m = c.args.self.now in
    let lt : c.args.disk < length (items_of m.first.items) = omega (arith, c.requires, as_many m) in
    let call = front_call m.calls.items c.deref-2.result.now c.last_sync.result c.loop-call.call-index c.call-item.result c.deref-2.ensures.value c.loop-call-test.true c.call-item.is in
    omega (arith, (write_fits c.args.disk (items_of m.first.items) m.calls.items m.kept.held lt c.loop-call.call-index call.0 at asked bytes (call.1 ∙ is)).1, ap length c.loop-call.invariant)

pub loop-call-preserved : goal.loop-call-preserved
loop-call-preserved c =
    let m = c.args.self.now in
    let lt : c.args.disk < length (items_of m.first.items) = omega (arith, c.requires, as_many m) in
    let call = front_call m.calls.items c.deref-2.result.now c.last_sync.result c.loop-call.call-index c.call-item.result c.deref-2.ensures.value c.loop-call-test.true c.call-item.is in
    c.take_again.ensures ∙ ap (written_on c.args.disk c.call-item.result) c.loop-call.invariant
    ∙ sym (takes c.args.disk (items_of m.first.items) m.calls.items m.kept.held lt c.loop-call.call-index call.0 ∙ ap (λ (x : Call). written_on c.args.disk x (at_time c.args.disk (items_of m.first.items) m.calls.items m.kept.held lt c.loop-call.call-index).content) call.1)

pub returns : goal.returns
returns c =
    let m = c.args.self.now in
    let first = items_of m.first.items in
    let calls = m.calls.items in
    let lt : c.args.disk < length first = omega (arith, c.requires, as_many m) in
    let is : IsLastSync calls c.args.disk c.last_sync.result = subst (λ (l : List Call). IsLastSync l c.args.disk c.last_sync.result) c.deref-3.ensures.value c.last_sync.ensures in
    let many : length (take c.last_sync.result c.deref-2.result.now) ≡ min c.last_sync.result (length c.deref-2.result.now) = length-take c.last_sync.result c.deref-2.result.now in
    let done : c.loop-call.call-index ≡ c.last_sync.result = omega (arith, c.loop-call-test.false, c.loop-call.auto.call-index-end, many, is.within, ap length c.deref-2.ensures.value) in
    c.loop-call.invariant ∙ ap (λ (k : ℕ). (at_time c.args.disk first calls m.kept.held lt k).content) done
    ∙ last_content c.args.disk first calls m.kept.held lt c.last_sync.result is ∙ ap (λ (d : Disk). d.synced) (now_is c.args.disk first calls m.kept.held lt)
