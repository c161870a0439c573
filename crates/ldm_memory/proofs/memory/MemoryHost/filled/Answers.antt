use Rattle.std.proofs.Common.{◌≡◌, ◌<◌, ◌≤◌, ℕ, List, length, get_or, sym, ◌∙◌, ap, subst, arith}
use Rattle.std.proofs.lemmas.List.{get_or_default}
use Rattle.ldm_memory.specs.declared.call.Call.{Call}
use Rattle.ldm_memory.specs.declared.call.Call.TheVariants.{Nothing}
use Rattle.ldm_host.specs.Images.{items_of}
use Rattle.ldm_memory.specs.Left.{IsLastSync, overlaid, filled_on}
use Rattle.ldm_host.specs.Seen.{image}
use Rattle.ldm_memory.specs.Story.{Disk}
use Rattle.ldm_memory.proofs.HeldLaws.{image_read}
use Rattle.ldm_memory.proofs.LeftLaws.{as_many, at_time, fills, held_length, length_at, length-filled, none_pending, now_is, write_fits}
use Rattle.ldm_memory.proofs.memory.MemoryHost.filled.Goals as goal

pub loop-place-init : goal.loop-place-init
loop-place-init c =
    let m = c.args.self.now in
    let disk = c.args.disk in
    let first = items_of m.first.items in
    let calls = m.calls.items in
    let lt : disk < length first = omega (arith, c.requires, as_many m) in
    let is : IsLastSync calls disk c.last_sync-place.result = subst (λ (l : List Call). IsLastSync l disk c.last_sync-place.result) c.deref-2.ensures.value c.last_sync-place.ensures in
    let here = image_read m.held.items disk c.index.result.now c.requires c.index.ensures in
    c.in_ok-image.ensures.is ∙ c.deref.ensures.value ∙ sym here
    ∙ sym (ap (λ (ranges : List (ℕ × ℕ)). overlaid c.args.byte ranges (image (items_of m.held.items) disk)) (none_pending disk first calls m.kept.held lt c.last_sync-place.result is))

pub fill_range-requires : goal.fill_range-requires
fill_range-requires c = λ at asked bytes is.
    let m = c.args.self.now in
    let disk = c.args.disk in
    let first = items_of m.first.items in
    let calls = m.calls.items in
    let k = c.loop-place.place in
    let lt : disk < length first = omega (arith, c.requires, as_many m) in
    let less : k < length calls = omega (arith, c.loop-place-test.true, c.len-place-end.ensures, m.calls.ok.0) in
    let call : get_or calls k Nothing ≡ c.index-in-loop-place.result.now = get_or_default calls k Nothing c.index-in-loop-place.result.now less ∙ sym c.index-in-loop-place.ensures in
    let now = at_time disk first calls m.kept.held lt k in
    let same : length now.content ≡ length (image (items_of m.held.items) disk) = length_at disk first calls m.kept.held lt k (omega (arith, less)) ∙ sym (held_length m disk lt) in
    let whole = length-filled c.args.byte now.pending (image (items_of m.held.items) disk) (omega (arith, same, (m.kept.held k disk).within)) in
    omega (arith, (write_fits disk first calls m.kept.held lt k less at asked bytes (call ∙ is)).0, same, whole, ap length c.loop-place.invariant)

pub loop-place-preserved : goal.loop-place-preserved
loop-place-preserved c =
    let m = c.args.self.now in
    let disk = c.args.disk in
    let first = items_of m.first.items in
    let calls = m.calls.items in
    let k = c.loop-place.place in
    let lt : disk < length first = omega (arith, c.requires, as_many m) in
    let is : IsLastSync calls disk c.last_sync-place.result = subst (λ (l : List Call). IsLastSync l disk c.last_sync-place.result) c.deref-2.ensures.value c.last_sync-place.ensures in
    let less : k < length calls = omega (arith, c.loop-place-test.true, c.len-place-end.ensures, m.calls.ok.0) in
    let call : get_or calls k Nothing ≡ c.index-in-loop-place.result.now = get_or_default calls k Nothing c.index-in-loop-place.result.now less ∙ sym c.index-in-loop-place.ensures in
    let now = at_time disk first calls m.kept.held lt k in
    let held = image (items_of m.held.items) disk in
    c.fill_range.ensures ∙ ap (filled_on disk c.args.byte c.index-in-loop-place.result.now) c.loop-place.invariant
    ∙ sym (fills disk first calls m.kept.held lt c.last_sync-place.result is c.args.byte held k c.loop-place.auto.place less ∙ ap (λ (x : Call). filled_on disk c.args.byte x (overlaid c.args.byte now.pending held)) call)

pub returns : goal.returns
returns c =
    let m = c.args.self.now in
    let disk = c.args.disk in
    let first = items_of m.first.items in
    let calls = m.calls.items in
    let lt : disk < length first = omega (arith, c.requires, as_many m) in
    let is : IsLastSync calls disk c.last_sync-place.result = subst (λ (l : List Call). IsLastSync l disk c.last_sync-place.result) c.deref-2.ensures.value c.last_sync-place.ensures in
    let end : c.last_sync-place.result ≤ c.len-place-end.result = omega (arith, is.within, c.len-place-end.ensures, m.calls.ok.0) in
    let done : c.loop-place.place ≡ length calls = omega (arith, c.loop-place-test.false, c.loop-place.auto.place-end end, c.len-place-end.ensures, m.calls.ok.0) in
    let held = image (items_of m.held.items) disk in
    c.loop-place.invariant ∙ ap (λ (k : ℕ). overlaid c.args.byte (at_time disk first calls m.kept.held lt k).pending held) done ∙ ap (λ (d : Disk). overlaid c.args.byte d.pending held) (now_is disk first calls m.kept.held lt)
