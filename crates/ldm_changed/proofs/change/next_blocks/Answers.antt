use Rattle.std.proofs.Common.{◌≡◌, ℕ, List, length, map, sym, ap, subst, ◌∙◌, arith}
use Rattle.std.specs.Prelude.{filter}
use Rattle.std.proofs.lemmas.List.{with_items_is, length-map}
use Rattle.ldm_records.specs.declared.types.Record.{Record}
use Rattle.ldm_written.specs.Written.{Holds}
use Rattle.ldm_frags.specs.Blocks.{block_at}
use Rattle.ldm_body.specs.Body.{Store, Stored, placed_of, stored_at}
use Rattle.ldm_changed.specs.Plan.{has_record, record_stays, changed_numbers}
use Rattle.ldm_body.proofs.BodyLaws.{record_of}
use Rattle.ldm_written.proofs.HoldEdits.{hold_grown}
use Rattle.ldm_changed.proofs.PlanLaws.{kept_records_of, changed_grown}
use Rattle.ldm_changed.proofs.NextLaws.{next_holds}
use Rattle.ldm_changed.proofs.change.next_blocks.Goals as goal

pub weave-requires-clause-kept : goal.weave-requires-clause-kept
weave-requires-clause-kept c =
    let old = c.args.old.now.records in
    let new = c.args.new.now.records in
    let K : List Stored = filter (record_stays new) (stored_at old c.args.table.now) in
    ap (λ (l : List (List ℕ)). length l) (c.deref.ensures.value ∙ c.in_ok-kept.ensures.kept) ∙ length-map K (λ (s : Stored). s.slots) ∙ sym (length-map K record_of)
    ∙ ap (λ (l : List Record). length l) (kept_records_of old new c.args.table.now c.requires.one_each ∙ c.in_ok-kept.ensures.same)
    ∙ ap (λ (l : List Record). length (filter (has_record old) l)) (sym c.as_slice.ensures.all)

pub rewrite_blocks-requires-clause-holds : goal.rewrite_blocks-requires-clause-holds
rewrite_blocks-requires-clause-holds c =
    let blocks = c.args.blocks.now in
    let records = map placed_of (stored_at c.args.old.now.records c.args.table.now) in
    subst (λ (l : List ℕ). Holds l records) (sym c.deref_mut.ensures.value)
    (hold_grown blocks c.in_ok-out.out.items c.args.room (let more = c.requires.more in omega arith) c.in_ok-out.ensures records c.requires.holds)

pub returns-clause-store : goal.returns-clause-store
returns-clause-store c =
    let is = c.from_vec.ensures ∙ with_items_is c.in_ok-out.out c.rewrite_blocks.new.out (c.rewrite_blocks.auto.out ∙ c.deref_mut.ensures.len) in
    subst (λ (l : List ℕ). Store l c.args.new.now.records) (sym is) c.in_ok-kept.ensures.store

pub returns-clause-changed : goal.returns-clause-changed
returns-clause-changed c =
    c.from_vec-2.ensures ∙ c.in_ok-numbers.ensures ∙ ap (changed_numbers c.args.blocks.now) (c.deref-3.ensures.value ∙ sym c.from_vec.ensures)

pub returns-clause-few : goal.returns-clause-few
returns-clause-few c =
    let blocks = c.args.blocks.now in
    let grown = c.in_ok-out.out.items in
    let out = c.rewrite_blocks.new.out in
    let from : c.deref_mut.result.now ≡ grown = c.deref_mut.ensures.value in
    let to : c.deref-3.result.now ≡ out = c.deref-3.ensures.value ∙ with_items_is c.in_ok-out.out out (c.rewrite_blocks.auto.out ∙ c.deref_mut.ensures.len) in
    let touched = c.in_ok-kept.ensures.touched in
    let few = changed_grown blocks grown out touched.0 c.args.room (let more = c.requires.more in omega arith) c.in_ok-out.ensures (c.rewrite_blocks.auto.out ∙ ap (λ (l : List ℕ). length l) from)
    (λ b low avoid. touched.2 b low avoid ∙ ap (λ (l : List ℕ). block_at l b) from) in
    let numbers : length c.from_vec-2.result ≡ length (changed_numbers blocks out) = ap (λ (l : List ℕ). length l) (c.from_vec-2.ensures ∙ c.in_ok-numbers.ensures ∙ ap (changed_numbers blocks) to) in
    omega (arith, numbers, few, touched.1)

pub returns-clause-holds : goal.returns-clause-holds
returns-clause-holds c =
    let old = c.args.old.now.records in
    let new = c.args.new.now.records in
    let out = c.rewrite_blocks.new.out in
    let is : c.from_vec.result ≡ out = c.from_vec.ensures ∙ with_items_is c.in_ok-out.out out (c.rewrite_blocks.auto.out ∙ c.deref_mut.ensures.len) in
    subst (λ (l : List ℕ). Holds l (map placed_of (stored_at new c.in_ok-next.next.items))) (sym is)
    (next_holds old new c.args.table.now c.in_ok-kept.kept.items c.in_ok-kept.made.items c.in_ok-next.next.items out
    c.requires.one_each c.in_ok-kept.ensures.kept c.in_ok-kept.ensures.same c.in_ok-kept.ensures.holds
    (rw (c.as_slice.ensures.all, c.deref.ensures.value, c.deref-2.ensures.value) at c.in_ok-next.ensures.same))
