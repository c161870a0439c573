use Rattle.std.proofs.Common.{◌≡◌, ◌≢◌, ◌≤◌, ℕ, List, ◌++◌, length, take, map, All, AllPairs, Contains, IsTrue, sym, ap, subst, ◌∙◌, arith}
use Rattle.std.specs.Prelude.{filter}
use Rattle.std.proofs.lemmas.List.Elements.{filter_passes}
use Rattle.std.proofs.lemmas.List.Kept.{AllPairs-filter}
use Rattle.ldm_records.specs.declared.types.Record.{Record}
use Rattle.ldm_records.specs.Plain.{IsRecord}
use Rattle.ldm_records.specs.Views.{plain_of}
use Rattle.ldm_frags.specs.Blocks.{count, numbers_from, block_at}
use Rattle.ldm_written.specs.Written.{Holds, IsInUse}
use Rattle.ldm_group.specs.Room.{need_of}
use Rattle.ldm_body.specs.Body.{Stored, placed_of, stored_at}
use Rattle.ldm_changed.specs.Plan.{has_record, lacks, record_stays, record_goes, Avoids}
use Rattle.ldm_written.specs.Free.{is_free, free_numbers}
use Rattle.ldm_written.proofs.HoldEdits.{enough_free, free_within, numbers_apart}
use Rattle.ldm_changed.proofs.PlanLaws.{same_kept, kept_there_of, room_left, next_store, touched_numbers, touched_few, touched_others}
use Rattle.ldm_changed.proofs.planning.rewrite_blocks.Goals as goal

-- what was freed, of the records and not of the slice
kept_holds : (old slice new : List Record) (table : List (List ℕ)) (out : List ℕ) → slice ≡ old → Holds out (map placed_of (filter (record_stays new) (stored_at slice table)))
    → Holds out (map placed_of (filter (record_stays new) (stored_at old table)))
kept_holds old slice new table out e holds = subst (λ (l : List Record). Holds out (map placed_of (filter (record_stays new) (stored_at l table)))) e holds

kept_there : (old slice new : List Record) (table : List (List ℕ)) → slice ≡ old → All (λ (s : Stored). Contains new s.record_is) (filter (record_stays new) (stored_at slice table))
    → All (λ (s : Stored). Contains new s.record_is) (filter (record_stays new) (stored_at old table))
kept_there old slice new table e there = subst (λ (l : List Record). All (λ (s : Stored). Contains new s.record_is) (filter (record_stays new) (stored_at l table))) e there

pub write_made-requires-clause-room : goal.write_made-requires-clause-room
write_made-requires-clause-room c =
    let old = c.args.old.now.records in
    let new = c.args.new.now.records in
    let table = c.args.table.now in
    let out = c.free_gone.new.out in
    let e = c.as_slice-records.ensures.all in
    let small : length out ≤ 1048576 = omega (arith, c.free_gone.auto.out, c.requires.small) in
    let holds = kept_holds old c.as_slice-records.result.now new table out e c.in_ok-kept.ensures.holds in
    let there = kept_there old c.as_slice-records.result.now new table e c.in_ok-kept.ensures.there in
    let K : List Stored = filter (record_stays new) (stored_at old table) in
    let left = room_left old new table c.requires.one_each c.as_slice-records.ensures.rising c.as_slice.ensures.rising out small (omega (arith, c.requires.room, c.free_gone.auto.out))
    (enough_free out (map placed_of K) small holds) holds there in
    let free : length c.deref.result.now ≡ length (free_numbers out) = ap (λ (l : List ℕ). length l) (c.deref.ensures.value ∙ c.in_ok-free.ensures) in
    let same : need_of (filter (lacks old) c.as_slice.result.now) ≡ need_of (filter (lacks old) new) = ap (λ (l : List Record). need_of (filter (lacks old) l)) c.as_slice.ensures.all in
    omega (arith, left, free, same)

pub write_made-requires-clause-apart : goal.write_made-requires-clause-apart
write_made-requires-clause-apart c =
    let out = c.free_gone.new.out in
    subst (λ (l : List ℕ). AllPairs (λ a b. a ≢ b) l) (sym (c.deref.ensures.value ∙ c.in_ok-free.ensures))
    (AllPairs-filter (λ a b. a ≢ b) (is_free out) (numbers_from 4 (count out)) (numbers_apart 4 (count out)))

pub write_made-requires-clause-within : goal.write_made-requires-clause-within
write_made-requires-clause-within c =
    let out = c.free_gone.new.out in
    subst (λ (l : List ℕ). All (IsInUse out) l) (sym (c.deref.ensures.value ∙ c.in_ok-free.ensures)) (free_within out)

pub write_made-requires-clause-free : goal.write_made-requires-clause-free
write_made-requires-clause-free c =
    let out = c.free_gone.new.out in
    subst (λ (l : List ℕ). All (λ b. IsTrue (is_free out b)) l) (sym (c.deref.ensures.value ∙ c.in_ok-free.ensures)) (filter_passes (is_free out) (numbers_from 4 (count out)))

pub returns-clause-holds : goal.returns-clause-holds
returns-clause-holds c =
    let old = c.args.old.now.records in
    let new = c.args.new.now.records in
    let table = c.args.table.now in
    let K : List Stored = filter (record_stays new) (stored_at old table) in
    let holds = kept_holds old c.as_slice-records.result.now new table c.free_gone.new.out c.as_slice-records.ensures.all c.in_ok-kept.ensures.holds in
    subst (λ (l : List Record). Holds c.write_made.new.out (map placed_of (stored_at (filter (lacks old) l) c.in_ok-made.made.items ++ K))) c.as_slice.ensures.all (c.in_ok-made.ensures.holds K holds)

pub returns-clause-store : goal.returns-clause-store
returns-clause-store c =
    let old = c.args.old.now.records in
    let new = c.args.new.now.records in
    let table = c.args.table.now in
    let slice = c.as_slice-records.result.now in
    let e = c.as_slice-records.ensures.all in
    let f = c.as_slice.ensures.all in
    let K : List Stored = filter (record_stays new) (stored_at old table) in
    let holds = kept_holds old slice new table c.free_gone.new.out e c.in_ok-kept.ensures.holds in
    let there = kept_there old slice new table e c.in_ok-kept.ensures.there in
    next_store old new table c.requires.one_each c.as_slice-records.ensures.rising c.as_slice.ensures.rising c.write_made.new.out c.in_ok-made.made.items
    (c.in_ok-made.ensures.one_each ∙ ap (λ (l : List Record). length (filter (lacks old) l)) f)
    (subst (λ (l : List Record). Holds c.write_made.new.out (map placed_of (stored_at (filter (lacks old) l) c.in_ok-made.made.items ++ K))) f (c.in_ok-made.ensures.holds K holds))
    c.requires.sound (subst (λ (l : List Record). All (λ r. IsRecord (plain_of r)) (filter (lacks old) l)) f c.in_ok-made.ensures.sound) there
    (subst (λ (l : List Record). All (Contains old) (filter (has_record old) l)) f c.in_ok-made.ensures.there)

pub returns-clause-touched : goal.returns-clause-touched
returns-clause-touched c =
    let old = c.args.old.now.records in
    let new = c.args.new.now.records in
    let table = c.args.table.now in
    let free = c.deref.result.now in
    let up = c.as_slice-records.ensures.rising in
    let vp = c.as_slice.ensures.rising in
    let first = subst (λ (l : List Record). (b : ℕ) → 4 ≤ b → All (Avoids b) (filter (record_goes new) (stored_at l table)) → block_at c.free_gone.new.out b ≡ block_at c.args.out.now b) c.as_slice-records.ensures.all c.in_ok-kept.ensures.others in
    let second = subst (λ (l : List Record). (b : ℕ) → 4 ≤ b → All (λ n. n ≢ b) (take (need_of (filter (lacks old) l)) free) → block_at c.write_made.new.out b ≡ block_at c.free_gone.new.out b) c.as_slice.ensures.all c.in_ok-made.ensures.others in (
      touched_numbers old new table c.requires.one_each up vp free,
      touched_few old new table c.requires.one_each up vp c.args.out.now free c.requires.holds,
      touched_others old new table c.requires.one_each up vp c.args.out.now c.free_gone.new.out c.write_made.new.out free first second,
    )

pub returns-clause-same : goal.returns-clause-same
returns-clause-same c =
    let old = c.args.old.now.records in
    let new = c.args.new.now.records in
    let table = c.args.table.now in
    let up = c.as_slice-records.ensures.rising in
    let vp = c.as_slice.ensures.rising in
    let there = kept_there old c.as_slice-records.result.now new table c.as_slice-records.ensures.all c.in_ok-kept.ensures.there in
    same_kept old new up vp (kept_there_of old new table c.requires.one_each there)
    (subst (λ (l : List Record). All (Contains old) (filter (has_record old) l)) c.as_slice.ensures.all c.in_ok-made.ensures.there)
