use Rattle.std.proofs.Common.{◌≡◌, ◌+◌, ◌++◌, ◌<◌, ◌≤◌, ◌^◌, max, min, List, get_or, length, sym, ap, subst, ◌∙◌, arith, ℕ}
use Rattle.std.specs.List.{All, filter_map}
use Rattle.std.specs.List.Sorted.{IsPermutation, IsNonDecreasingBy}
use Rattle.std.proofs.lemmas.List.{get_or_default}
use Rattle.std.proofs.lemmas.List.Elements.{All-weaker}
use Rattle.std.proofs.lemmas.List.Sorted.{All-permutation}
use Rattle.ldm_records.specs.declared.types.Record.{Record}
use Rattle.ldm_group.specs.Partitions.{EndsInRange}
use Rattle.ldm_space.specs.Free.{Taken, taken_in}
use Rattle.ldm_space.specs.Gaps.{Gap, AreGaps, taken_on, with_gap}
use Rattle.ldm_space.proofs.GapLaws.{IsOn, IsWalked, all_on, sorted_same, gaps_same, walk_begun, walk_more, walk_done}
use Rattle.ldm_space.proofs.gaps.FreeMap.beside.Goals as goal

slice_on : (records : List Record) (items slice : List Taken) (disk : ℕ) → slice ≡ items → IsPermutation (filter_map (taken_on disk) records) items → All EndsInRange records → All (IsOn disk) slice
slice_on records items slice disk same moved ends = subst (All (IsOn disk)) (sym same) (All-permutation (IsOn disk) (filter_map (taken_on disk) records) items moved (all_on records disk ends))

pub loop-t-init : goal.loop-t-init
loop-t-init c = subst (λ (l : List Gap). IsWalked c.deref-t-items.result.now c.args.disk c.args.data_size 0 0 l) (sym c.new-gaps.ensures.items) (walk_begun c.deref-t-items.result.now c.args.disk c.args.data_size)

pub overflow_add-t : goal.overflow_add-t
overflow_add-t c =
    let on = slice_on (c.args.records.now ++ c.args.more.now) c.in_ok-taken.taken.items c.deref-t-items.result.now c.args.disk c.deref-t-items.ensures.value c.in_ok-taken.ensures.same c.requires.ends in
    let d : Taken = record { disk = 0; start = 0; size = 0 } in
    let t : Taken = get_or c.deref-t-items.result.now c.loop-t.t-index d in
    let ends : t.start + t.size < 2 ^ 64 = (on c.loop-t.t-index d c.loop-t-test.true).ends in
    omega arith

pub loop-t-preserved : goal.loop-t-preserved
loop-t-preserved c =
    let slice : List Taken = c.deref-t-items.result.now in
    let disk = c.args.disk in
    let size = c.args.data_size in
    let k : ℕ = c.loop-t.t-index in
    let d : Taken = record { disk = 0; start = 0; size = 0 } in
    let t : Taken = get_or slice k d in
    let on = slice_on (c.args.records.now ++ c.args.more.now) c.in_ok-taken.taken.items slice disk c.deref-t-items.ensures.value c.in_ok-taken.ensures.same c.requires.ends in
    let rising : IsNonDecreasingBy (λ t. t.start) slice = subst (λ (l : List Taken). IsNonDecreasingBy (λ t. t.start) l) (sym c.deref-t-items.ensures.value) c.in_ok-taken.ensures.rising in
    let more = walk_more slice disk size k c.loop-t.at c.loop-t.gaps.items t rising on c.loop-t-test.true (get_or_default slice k t d c.loop-t-test.true) c.loop-t.invariant in
    let gaps : c.push_gap.new.gaps.items ≡ with_gap c.loop-t.gaps.items c.loop-t.at (min t.start size) = c.in_ok-push_gap.ensures ∙ ap (with_gap c.loop-t.gaps.items c.loop-t.at) c.min.ensures in
    subst (λ (n : ℕ). IsWalked slice disk size (k + 1) n c.push_gap.new.gaps.items) (sym c.max-at.ensures)
    (subst (λ (l : List Gap). IsWalked slice disk size (k + 1) (max c.loop-t.at (t.start + t.size)) l) (sym gaps) more)

-- after the last, over what was met
whole : (records : List Record) (items slice : List Taken) (gaps now : List Gap) (disk size k at : ℕ) → slice ≡ items → IsPermutation (filter_map (taken_on disk) records) items → length slice ≤ k → IsWalked slice disk size k at gaps
    → now ≡ with_gap gaps at size → AreGaps now (taken_in records) disk size
whole records items slice gaps now disk size k at same moved past walked is =
    subst (λ (l : List Gap). AreGaps l (taken_in records) disk size) (sym is)
    (gaps_same (with_gap gaps at size) items (taken_in records) disk size (λ s. sorted_same records items disk s moved)
    (subst (λ (l : List Taken). AreGaps (with_gap gaps at size) l disk size) same (walk_done slice disk size k at gaps past walked)))

pub invariant_of-result : goal.invariant_of-result
invariant_of-result c =
    let are = whole (c.args.records.now ++ c.args.more.now) c.in_ok-taken.taken.items c.deref-t-items.result.now c.loop-t.gaps.items c.push_gap-2.new.gaps.items c.args.disk c.args.data_size c.loop-t.t-index c.loop-t.at
    c.deref-t-items.ensures.value c.in_ok-taken.ensures.same (omega arith) c.loop-t.invariant c.in_ok-push_gap-2.ensures in
    All-weaker (λ (g : Gap). g.start + g.len ≤ c.args.data_size) (λ (g : Gap). g.start + g.len < 2 ^ 64) (λ g e. omega arith) c.push_gap-2.new.gaps.items are.within

pub returns : goal.returns
returns c =
    whole (c.args.records.now ++ c.args.more.now) c.in_ok-taken.taken.items c.deref-t-items.result.now c.loop-t.gaps.items c.push_gap-2.new.gaps.items c.args.disk c.args.data_size c.loop-t.t-index c.loop-t.at
    c.deref-t-items.ensures.value c.in_ok-taken.ensures.same (omega arith) c.loop-t.invariant c.in_ok-push_gap-2.ensures
