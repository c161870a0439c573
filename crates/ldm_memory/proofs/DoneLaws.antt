-- What a call of a host in memory does and how it ends, from what its steps did.
use Rattle.std.proofs.Common.{[], ◌≡◌, Bool, true, false, List, ◌∷◌, ◌++◌, if◌then◌else◌, refl, ◌≢◌, ℕ, ◌+◌, ◌-◌, ◌^◌, ◌<◌, ◌≤◌, ◌==◌, min, length, get_or, set, slice_index, ◌∙◌, ap, arith, inl, inr, ◌/◌, ◌&&◌, take, drop, sym, subst, not, ◌||◌, ◌↔◌, IsTrue, IsFalse, is_ok, IfOk, IsErr, OnOk, OnErr, Result, Ok, Err, Vec}
use Rattle.std.specs.declared.alloc.Global.{Global}
use Rattle.ldm_memory.specs.declared.call.Call.{Call}
use Rattle.ldm_memory.specs.Steps.{AddsCall, IsNothing, IsWriteOf, IsWrite, IsSync, IsHear, IsSayOf, IsSay, EndsRead, is_whole}
use Rattle.std.proofs.lemmas.List.{get_or-set_same, get_or-set_other, length_push, length-take, take_all, append-nil}
use Rattle.ldm_bytes.specs.Numbers.{IsBytes}
use Rattle.ldm_bytes.specs.Places.{put}
use Rattle.ldm_host.specs.Seen.{Seen, image}
use Rattle.ldm_host.specs.Moves.{Still, Writes, Syncs, Settled, Ticks, Rose, Grows}
use Rattle.ldm_host.specs.Acts.{Act}
use Rattle.ldm_memory.specs.declared.call.Call.TheVariants.{Write, Say}
use Rattle.ldm_memory.specs.declared.outcome.Outcome.{Outcome}
use Rattle.ldm_memory.specs.declared.outcome.Outcome.TheVariants.{Whole, Half, Nothing}
use Rattle.ldm_memory.specs.Story.{Story, StoryState, Counts, seen_of, heard_in, fresh_state, run, after, disk_at, sizes_of}
use Rattle.ldm_memory.specs.Ending.{TakesNothing, TakesHalf, Pends, first_half, EndsCall, is_talk, is_to_fail, is_unreadable}
use Rattle.ldm_memory.proofs.CallLaws.{CountsRise, run_push, still_counts, still_push, nothing_push, writes_counts, writes_nothing, writes_push, put_content, pending_push, syncs_counts, syncs_push, settled}
use Rattle.ldm_host.specs.declared.host.DiskRange.{DiskRange}
use Rattle.ldm_host.proofs.Relations.{still_syncs, grows_itself}
use Rattle.std.specs.Result.{result_and}
use Rattle.std.proofs.lemmas.Bool.{cases_lt}
use Rattle.ldm_memory.specs.declared.memory.MemoryHost.{MemoryHost}
use Rattle.ldm_memory.specs.Plan.{Plan, next, next_plan, is_past, is_chosen, outcome_of}
use Rattle.ldm_memory.specs.Memory.{memory_seen, plan_of}

-- ---- How the list of calls grew.

-- by a call that is of another kind too
pub adds_as : (found : Bool) (is to : Call → Type 0) (old new : List Call) → ((call : Call) → is call → to call) → AddsCall found is old new → AddsCall found to old new
adds_as true is to old new so adds = (adds.0, so adds.0 adds.1, adds.2)
adds_as false is to old new so same = same

-- what a push leaves
pub pushed : (found : Bool) (call : Call) (old new : List Call) → new ≡ (if found then old ++ call ∷ [] else old) → AddsCall found (λ kept. kept ≡ call) old new
pushed true call old new is = (call, refl, is)
pushed false call old new is = is

-- ---- The counts of the bytes that were handed.

abbrev handed_to : List ℕ → ℕ → ℕ → List ℕ
handed_to old disk n = set old disk (min (slice_index old disk + n) (2 ^ 64 - 1))

pub handed_here : (old new : List ℕ) (disk n : ℕ) → disk < length old → new ≡ set old disk (min (slice_index old disk + n) (2 ^ 64 - 1)) → slice_index new disk ≤ slice_index old disk + n
handed_here old new disk n lt is =
    let at : get_or (handed_to old disk n) disk 0 ≡ min (slice_index old disk + n) (2 ^ 64 - 1) = get_or-set_same old disk (min (slice_index old disk + n) (2 ^ 64 - 1)) 0 lt in
    omega (arith, ap (λ (l : List ℕ). get_or l disk 0) is, at)

pub handed_others : (old new : List ℕ) (disk n : ℕ) → new ≡ set old disk (min (slice_index old disk + n) (2 ^ 64 - 1)) → (other : ℕ) → other ≢ disk → slice_index new other ≡ slice_index old other
handed_others old new disk n is other ne = ap (λ (l : List ℕ). get_or l other 0) is ∙ get_or-set_other old disk other (min (slice_index old disk + n) (2 ^ 64 - 1)) 0 ne

-- ---- What a call of a host in memory does, from what its steps did.

-- What a call took, by its outcome, and whether it found memory.
abbrev pub Took : Act → Outcome → Bool → Seen → Seen → Type 0
Took act Whole true old new = Pends act old new
Took act Half true old new = TakesHalf act old new × Pends act old new
Took act _ _ old new = TakesNothing old new

-- what holds with one call more, and without
by_calls : (P : Bool → List Call → Type 0) (found : Bool) (is : Call → Type 0) (calls later : List Call) → AddsCall found is calls later
    → ((call : Call) → is call → P true (calls ++ call ∷ [])) → P false calls → P found later
by_calls P true is calls later adds more none = subst (P true) (sym adds.2) (more adds.0 adds.1)
by_calls P false is calls later same more none = subst (P false) (sym same) none

module _ (story : Story) (old new : Counts) (rise : CountsRise old new) where
  abbrev before : Seen
  before = seen_of story old

  -- after these calls
  abbrev seen_by : List Call → Seen
  seen_by calls = seen_of (record { first = story.first; calls = calls; script = story.script }) new

  -- after one call more
  abbrev seen_with : Call → Seen
  seen_with call = seen_by (story.calls ++ call ∷ [])

  abbrev first : StoryState
  first = fresh_state story.first

  abbrev now : StoryState
  now = run first story.calls

  nothing_more : (call : Call) → IsNothing call → TakesNothing before (seen_with call)
  nothing_more call is = subst (λ (x : Call). TakesNothing before (seen_with x)) (sym is) (nothing_push first story.calls story.script old new rise)

  nothing_same : TakesNothing before (seen_by story.calls)
  nothing_same = record { content = refl; left = λ disk c. (λ l. l, λ l. l); quiet = record { said = refl; heard = refl; input = refl } }

  pub adds_ticks : (found : Bool) (is : Call → Type 0) (later : List Call) → AddsCall found is story.calls later → Ticks before (seen_by later)
  adds_ticks found is later g = by_calls (λ b l. Ticks before (seen_by l)) found is story.calls later g
      (λ call has. record { rises = inl (omega (arith, length_push story.calls call)) })
      (record { rises = inr ((λ disk c. (λ l. l, λ l. l)), refl, refl) })

  adds_still : (found : Bool) (is : Call → Type 0) (later : List Call) → new.wrote ≡ old.wrote → ((call : Call) → is call → (after now call).disks ≡ now.disks) → AddsCall found is story.calls later → Still before (seen_by later)
  adds_still found is later wrote same g = by_calls (λ b l. Still before (seen_by l)) found is story.calls later g
      (λ call has. still_push first story.calls story.script old new rise call wrote (same call has))
      (still_counts first story.calls story.script old new rise wrote)

  -- what it took where it found no memory
  adds_took : (act : Act) (outcome : Outcome) (found : Bool) (is : Call → Type 0) (later : List Call) → AddsCall found is story.calls later
      → ((call : Call) → is call → Took act outcome true before (seen_with call)) → Took act outcome found before (seen_by later)
  adds_took act outcome found is later g kept = by_calls (λ b l. Took act outcome b before (seen_by l)) found is story.calls later g kept (dry outcome)
    where
      dry : (outcome : Outcome) → Took act outcome false before (seen_by story.calls)
      dry Whole = nothing_same
      dry outcome = nothing_same

  -- ---- to read

  pub read_still : new.wrote ≡ old.wrote → Still before (seen_by story.calls)
  read_still wrote = still_counts first story.calls story.script old new rise wrote

  pub read_took : TakesNothing before (seen_by story.calls)
  read_took = nothing_same

  -- ---- to write

  module _ (disk at : ℕ) (bytes : List ℕ) (in_range : disk < length (sizes_of now.disks)) (fits : at + length bytes ≤ length (disk_at now.disks disk).content) (small : IsBytes (disk_at now.disks disk).content)
      (wrote : slice_index new.wrote disk ≤ slice_index old.wrote disk + length bytes) (wrote_others : (other : ℕ) → other ≢ disk → slice_index new.wrote other ≡ slice_index old.wrote other) where
    writes_of : (taken : List ℕ) (call : Call) → length taken ≤ length bytes → IsWriteOf disk at taken (length bytes) call → Writes disk at (length bytes) before (seen_with call)
    writes_of taken call short is = subst (λ (x : Call). Writes disk at (length bytes) before (seen_with x)) (sym is.1)
        (writes_push first story.calls story.script old new rise disk at (length bytes) is.0 in_range (omega (arith, ap length is.2, short)) fits small wrote wrote_others)

    pends_of : (taken : List ℕ) (call : Call) → length taken ≤ length bytes → IsWriteOf disk at taken (length bytes) call → Pends (Act.Write disk at bytes) before (seen_with call)
    pends_of taken call short is = subst (λ (x : Call). Pends (Act.Write disk at bytes) before (seen_with x)) (sym is.1)
        (pending_push first story.calls story.script old new rise disk at (length bytes) is.0 in_range (omega (arith, ap length is.2, short)) fits small)

    placed_of : (taken : List ℕ) (call : Call) → length taken ≤ length bytes → IsWriteOf disk at taken (length bytes) call
        → (seen_with call).content ≡ set before.content disk (put (image before.content disk) at taken)
    placed_of taken call short is =
        ap (λ (x : Call). (seen_with x).content) is.1
        ∙ put_content first story.calls story.script old new rise disk at (length bytes) is.0 in_range (omega (arith, ap length is.2, short)) fits small (ap (λ (s : StoryState). s.disks) (run_push first story.calls (Write disk at is.0 (length bytes))))
        ∙ ap (λ (l : List ℕ). set before.content disk (put (image before.content disk) at l)) is.2

    half : length (first_half bytes) ≤ length bytes
    half = omega (arith, length-take (length bytes / 2) bytes)

    pub write_writes : (outcome : Outcome) (found : Bool) (later : List Call) → AddsCall found (IsWrite outcome disk at bytes) story.calls later → Writes disk at (length bytes) before (seen_by later)
    write_writes outcome found later g = by_calls (λ b l. Writes disk at (length bytes) before (seen_by l)) found (IsWrite outcome disk at bytes) story.calls later g (kept outcome)
        (writes_counts first story.calls story.script old new rise disk at (length bytes) wrote wrote_others)
      where
        kept : (outcome : Outcome) (call : Call) → IsWrite outcome disk at bytes call → Writes disk at (length bytes) before (seen_with call)
        kept Whole call is = writes_of bytes call (omega arith) is
        kept Half call is = writes_of (first_half bytes) call half is
        kept Nothing call is = subst (λ (x : Call). Writes disk at (length bytes) before (seen_with x)) (sym is) (writes_nothing first story.calls story.script old new rise disk at (length bytes) wrote wrote_others)

    pub write_placed : (outcome : Outcome) (found : Bool) (later : List Call) → AddsCall found (IsWrite outcome disk at bytes) story.calls later → is_whole outcome && found ≡ true
        → (seen_by later).content ≡ set before.content disk (put (image before.content disk) at bytes)
    write_placed Whole found later g = by_calls (λ b l. b ≡ true → (seen_by l).content ≡ set before.content disk (put (image before.content disk) at bytes)) found (IsWrite Whole disk at bytes) story.calls later g
        (λ call is ok. placed_of bytes call (omega arith) is) (λ ok. absurd cc)
    write_placed outcome found later g = λ ok. absurd cc

    pub write_took : (outcome : Outcome) (found : Bool) (later : List Call) → AddsCall found (IsWrite outcome disk at bytes) story.calls later → Took (Act.Write disk at bytes) outcome found before (seen_by later)
    write_took outcome found later g = adds_took (Act.Write disk at bytes) outcome found (IsWrite outcome disk at bytes) later g (kept outcome)
      where
        kept : (outcome : Outcome) (call : Call) → IsWrite outcome disk at bytes call → Took (Act.Write disk at bytes) outcome true before (seen_with call)
        kept Whole call is = pends_of bytes call (omega arith) is
        kept Half call is = (placed_of (first_half bytes) call half is, pends_of (first_half bytes) call half is)
        kept Nothing call is = nothing_more call is

  -- ---- to sync

  module _ (disk : ℕ) (in_range : disk < length (sizes_of now.disks)) (wrote : new.wrote ≡ old.wrote) where
    nothing_syncs : (call : Call) → IsNothing call → Syncs disk before (seen_with call)
    nothing_syncs call is = still_syncs disk before (seen_with call)
        (still_push first story.calls story.script old new rise call wrote (ap (λ (x : Call). (after now x).disks) is)) (nothing_more call is).quiet

    pub sync_syncs : (outcome : Outcome) (found : Bool) (later : List Call) → AddsCall found (IsSync outcome disk) story.calls later → Syncs disk before (seen_by later)
    sync_syncs outcome found later g = by_calls (λ b l. Syncs disk before (seen_by l)) found (IsSync outcome disk) story.calls later g (kept outcome) (syncs_counts first story.calls story.script old new rise disk wrote)
      where
        kept : (outcome : Outcome) (call : Call) → IsSync outcome disk call → Syncs disk before (seen_with call)
        kept Whole call is = subst (λ (x : Call). Syncs disk before (seen_with x)) (sym is) (syncs_push first story.calls story.script old new rise disk in_range wrote)
        kept outcome call is = nothing_syncs call is

    pub sync_settled : (outcome : Outcome) (found : Bool) (later : List Call) → AddsCall found (IsSync outcome disk) story.calls later → is_whole outcome && found ≡ true → Settled (seen_by later) disk
    sync_settled Whole found later g = by_calls (λ b l. b ≡ true → Settled (seen_by l) disk) found (IsSync Whole disk) story.calls later g
        (λ call is ok. subst (λ (x : Call). Settled (seen_with x) disk) (sym is) (settled first story.calls story.script old new rise disk in_range wrote)) (λ ok. absurd cc)
    sync_settled outcome found later g = λ ok. absurd cc

    pub sync_took : (outcome : Outcome) (found : Bool) (later : List Call) → AddsCall found (IsSync outcome disk) story.calls later → Took (Act.Sync disk) outcome found before (seen_by later)
    sync_took outcome found later g = adds_took (Act.Sync disk) outcome found (IsSync outcome disk) later g (kept outcome)
      where
        kept : (outcome : Outcome) (call : Call) → IsSync outcome disk call → Took (Act.Sync disk) outcome true before (seen_with call)
        kept Whole call is = tt
        kept Half call is = (nothing_more call is, tt)
        kept Nothing call is = nothing_more call is

  -- ---- to hear

  module _ (heard then_heard : ℕ) where
    same_but_heard : (outcome : Outcome) (call : Call) → IsHear outcome heard then_heard call → ((after now call).disks ≡ now.disks) × ((after now call).said ≡ now.said)
    same_but_heard Whole call is = (ap (λ (x : Call). (after now x).disks) is.1, ap (λ (x : Call). (after now x).said) is.1)
    same_but_heard outcome call is = (ap (λ (x : Call). (after now x).disks) is.0, ap (λ (x : Call). (after now x).said) is.0)

    pub hear_still : (outcome : Outcome) (found : Bool) (later : List Call) → new.wrote ≡ old.wrote → AddsCall found (IsHear outcome heard then_heard) story.calls later → Still before (seen_by later)
    hear_still outcome found later wrote g = adds_still found (IsHear outcome heard then_heard) later wrote (λ call is. (same_but_heard outcome call is).0) g

    pub hear_silent : (outcome : Outcome) (found : Bool) (later : List Call) → AddsCall found (IsHear outcome heard then_heard) story.calls later → (seen_by later).said ≡ before.said
    hear_silent outcome found later g = by_calls (λ b l. (seen_by l).said ≡ before.said) found (IsHear outcome heard then_heard) story.calls later g
        (λ call is. ap (λ (s : StoryState). s.said) (run_push first story.calls call) ∙ (same_but_heard outcome call is).1) refl

    -- the end was heard where it had been, or no byte came
    pub hear_ended : (n : ℕ) (later : List Call) → AddsCall true (IsHear Whole heard then_heard) story.calls later → then_heard ≡ heard + n → (seen_by later).heard.ended ≡ before.heard.ended || n == 0
    hear_ended n later g more =
        ap (λ (l : List Call). (run first l).ended) g.2 ∙ ap (λ (s : StoryState). s.ended) (run_push first story.calls g.0)
        ∙ ap (λ (x : Call). (after now x).ended) g.1.1 ∙ ap (λ (k : ℕ). now.ended || k == 0) (omega (arith, g.1.2, more))

    pub hear_took : (outcome : Outcome) (found : Bool) (later : List Call) → AddsCall found (IsHear outcome heard then_heard) story.calls later → Took Act.Hear outcome found before (seen_by later)
    hear_took outcome found later g = adds_took Act.Hear outcome found (IsHear outcome heard then_heard) later g (kept outcome)
      where
        kept : (outcome : Outcome) (call : Call) → IsHear outcome heard then_heard call → Took Act.Hear outcome true before (seen_with call)
        kept Whole call is = tt
        kept Half call is = (nothing_more call is.0, tt)
        kept Nothing call is = nothing_more call is.0

  -- ---- to say

  module _ (bytes : List ℕ) where
    said_of : (part : List ℕ) (call : Call) → IsSayOf part call → (seen_with call).said ≡ before.said ++ part
    said_of part call is =
        ap (λ (x : Call). (seen_with x).said) is.1 ∙ ap (λ (s : StoryState). s.said) (run_push first story.calls (Say is.0)) ∙ ap (λ (l : List ℕ). now.said ++ l) is.2

    -- a call that says leaves the disks and the script
    same_but_said : (outcome : Outcome) (call : Call) → IsSay outcome bytes call
        → ((after now call).disks ≡ now.disks) × (heard_in (after now call) story.script ≡ heard_in now story.script) × ((after now call).heard ≡ now.heard)
    same_but_said Nothing call is = (ap (λ (x : Call). (after now x).disks) is, ap (λ (x : Call). heard_in (after now x) story.script) is, ap (λ (x : Call). (after now x).heard) is)
    same_but_said outcome call is = (ap (λ (x : Call). (after now x).disks) is.1, ap (λ (x : Call). heard_in (after now x) story.script) is.1, ap (λ (x : Call). (after now x).heard) is.1)

    pub say_still : (outcome : Outcome) (found : Bool) (later : List Call) → new.wrote ≡ old.wrote → AddsCall found (IsSay outcome bytes) story.calls later → Still before (seen_by later)
    say_still outcome found later wrote g = adds_still found (IsSay outcome bytes) later wrote (λ call is. (same_but_said outcome call is).0) g

    pub say_hears : (outcome : Outcome) (found : Bool) (later : List Call) → AddsCall found (IsSay outcome bytes) story.calls later → ((seen_by later).heard ≡ before.heard) × ((seen_by later).input ≡ before.input)
    say_hears outcome found later g = by_calls (λ b l. ((seen_by l).heard ≡ before.heard) × ((seen_by l).input ≡ before.input)) found (IsSay outcome bytes) story.calls later g
        (λ call is. let ran = run_push first story.calls call in let same = same_but_said outcome call is in
        (ap (λ (s : StoryState). heard_in s story.script) ran ∙ same.1, ap (λ (n : ℕ). drop n story.script) (ap (λ (s : StoryState). s.heard) ran ∙ same.2)))
        (refl, refl)

    pub say_said : (outcome : Outcome) (found : Bool) (later : List Call) → AddsCall found (IsSay outcome bytes) story.calls later → is_whole outcome && found ≡ true → (seen_by later).said ≡ before.said ++ bytes
    say_said Whole found later g = by_calls (λ b l. b ≡ true → (seen_by l).said ≡ before.said ++ bytes) found (IsSay Whole bytes) story.calls later g (λ call is ok. said_of bytes call is) (λ ok. absurd cc)
    say_said outcome found later g = λ ok. absurd cc

    pub say_front : (outcome : Outcome) (found : Bool) (later : List Call) → AddsCall found (IsSay outcome bytes) story.calls later → (n : ℕ) × ((seen_by later).said ≡ before.said ++ take n bytes)
    say_front outcome found later g = by_calls (λ b l. (n : ℕ) × ((seen_by l).said ≡ before.said ++ take n bytes)) found (IsSay outcome bytes) story.calls later g (kept outcome) (0, sym (append-nil before.said))
      where
        kept : (outcome : Outcome) (call : Call) → IsSay outcome bytes call → (n : ℕ) × ((seen_with call).said ≡ before.said ++ take n bytes)
        kept Whole call is = (length bytes, said_of bytes call is ∙ ap (λ (l : List ℕ). before.said ++ l) (sym (take_all (length bytes) bytes (omega arith))))
        kept Half call is = (length bytes / 2, said_of (first_half bytes) call is)
        kept Nothing call is = (0, (nothing_more call is).quiet.said ∙ sym (append-nil before.said))

    pub say_took : (outcome : Outcome) (found : Bool) (later : List Call) → AddsCall found (IsSay outcome bytes) story.calls later → Took (Act.Say bytes) outcome found before (seen_by later)
    say_took outcome found later g = adds_took (Act.Say bytes) outcome found (IsSay outcome bytes) later g (kept outcome)
      where
        kept : (outcome : Outcome) (call : Call) → IsSay outcome bytes call → Took (Act.Say bytes) outcome true before (seen_with call)
        kept Whole call is = tt
        kept Half call is = (said_of (first_half bytes) call is, tt)
        kept Nothing call is = nothing_more call is

-- what a failing call left, where it takes nothing when it fails
pub nothing_failed : (act : Act) (outcome : Outcome) (found : Bool) (old new : Seen) → (TakesHalf act old new → TakesNothing old new) → Took act outcome found old new → is_whole outcome && found ≡ false → TakesNothing old new
nothing_failed act Whole true old new half took failed = absurd cc
nothing_failed act Half true old new half took failed = half took.0
nothing_failed act outcome found old new half took failed = took

pub ok_whole : (outcome : Outcome) (found : Bool) → is_whole outcome && found ≡ true → outcome ≡ Whole
ok_whole Whole found is = refl
ok_whole outcome found is = absurd cc

-- ---- How a call ends, from what its steps did.

-- the plan with this number of the last call
abbrev numbered : MemoryHost → ℕ → Plan
numbered m number = record { number = number; chosen = m.chosen.items; stop = m.stop }

pub plan_is : (m : MemoryHost) (number : ℕ) → number ≡ next m.number → numbered m number ≡ next_plan (plan_of m)
plan_is m number is = ap (λ (n : ℕ). numbered m n) is

-- the outcome of a call, by the plan before it
pub outcome_is : (m : MemoryHost) (number : ℕ) (outcome : Outcome) → outcome ≡ outcome_of (numbered m number) → number ≡ next m.number → outcome_of (next_plan (plan_of m)) ≡ outcome
outcome_is m number outcome is count = sym (is ∙ ap (λ (n : ℕ). outcome_of (numbered m n)) count)

-- an outcome, by its two tests
abbrev pick : Bool → Bool → Outcome
pick past chosen = if past then Nothing else if chosen then Half else Whole

pub on_ok : {T E : Type 0} (P : Type 0) (r : Result T E) → (is_ok r ≡ true → P) → OnOk r P
on_ok P (Ok x) is = is refl
on_ok P (Err e) is = tt

pub on_err : {T E : Type 0} (P : Type 0) (r : Result T E) → (is_ok r ≡ false → P) → OnErr r P
on_err P (Ok x) is = tt
on_err P (Err e) is = is refl

pub from_err : {T E : Type 0} (P : Type 0) (r : Result T E) → OnErr r P → is_ok r ≡ false → P
from_err P (Ok x) is failed = absurd (cc failed)
from_err P (Err e) is failed = is

pub is_failed : {T E : Type 0} (r : Result T E) → IsErr r → is_ok r ≡ false
is_failed (Ok x) failed = absurd (cc failed)
is_failed (Err e) failed = refl

-- a call fails where it was to fail, or found no memory
fails : (past chosen found : Bool) → IsFalse (is_whole (pick past chosen) && found) ↔ IsTrue (past || chosen || not found)
fails false false true = (λ f. absurd (cc f), λ t. absurd (cc t))
fails past chosen found = (λ f. refl, λ t. refl)

-- what it took, by the tests of its outcome
record Parts (act : Act) (ok half : Bool) (old new : Seen) : Type 0 where
  pending : IsTrue (ok || half) → Pends act old new
  took_half : IsFalse ok → IsTrue half → TakesHalf act old new
  took_nothing : IsFalse ok → IsFalse half → TakesNothing old new

parts : (act : Act) (old new : Seen) (past chosen found : Bool) → Took act (pick past chosen) found old new → Parts act (is_whole (pick past chosen) && found) (chosen && not (past || not found)) old new
parts act old new false true true took = record { pending = λ t. took.1; took_half = λ f t. took.0; took_nothing = λ f n. absurd (cc n) }
parts act old new false false true took = record { pending = λ t. took; took_half = λ f t. absurd (cc f); took_nothing = λ f n. absurd (cc f) }
parts act old new true true found took = record { pending = λ t. absurd (cc t); took_half = λ f t. absurd (cc t); took_nothing = λ f n. took }
parts act old new past chosen found took = record { pending = λ t. absurd (cc t); took_half = λ f t. absurd (cc t); took_nothing = λ f n. took }

-- a count of failures of the other kind stays
pub kept_count : (ok : Bool) (count : ℕ) → count ≡ (if ok || true then count else next count)
kept_count true count = refl
kept_count false count = refl

pub failed_count : (ok : Bool) (old new : ℕ) → new ≡ (if ok then old else next old) → new ≡ (if ok || false then old else next old)
failed_count true old new is = is
failed_count false old new is = is

pub rose : (ok : Bool) (old new : ℕ) → new ≡ (if ok then old else next old) → ok ≡ false → Rose old new
rose true old new is failed = absurd (cc failed)
rose false old new is failed = elim (cases_lt old (2 ^ 64 - 1)) [ inl lt ↦ inl (omega arith) | inr ge ↦ inr (omega arith) ]

module _ (act : Act) (m new : MemoryHost) (outcome : Outcome) (found ok : Bool) (plan : plan_of new ≡ next_plan (plan_of m)) where
  abbrev p : Plan
  p = plan_of new

  pub ends : outcome_of (next_plan (plan_of m)) ≡ outcome → ok ≡ is_whole outcome && found → new.bad ≡ m.bad
      → is_to_fail act p new.bad.items (not found) ≡ is_past p || is_chosen p || not found
      → new.disk_faults ≡ (if ok || is_talk act then m.disk_faults else next m.disk_faults) → new.talk_faults ≡ (if ok || not (is_talk act) then m.talk_faults else next m.talk_faults)
      → new.dry ≡ (if not found then next m.dry else m.dry) → Took act outcome found (memory_seen m) (memory_seen new) → EndsCall act m new ok
  ends is ok_is bad fail disk talk dry took = record {
    ran_dry = not found;
    plan = plan;
    bad = ap (λ (v : Vec DiskRange Global). v.items) bad;
    fails = subst (λ (b : Bool). IsFalse ok ↔ IsTrue b) (sym fail) (subst (λ (b : Bool). IsFalse b ↔ IsTrue (is_past p || is_chosen p || not found)) (sym ok_by) (fails (is_past p) (is_chosen p) found));
    dry = dry;
    disk_faults = disk;
    talk_faults = talk;
    pending = by_parts.pending;
    took_half = by_parts.took_half;
    took_nothing = by_parts.took_nothing;
  }
    where
      picked : pick (is_past p) (is_chosen p) ≡ outcome
      picked = subst (λ (q : Plan). outcome_of q ≡ outcome) (sym plan) is

      ok_by : ok ≡ is_whole (pick (is_past p) (is_chosen p)) && found
      ok_by = ok_is ∙ ap (λ (o : Outcome). is_whole o && found) (sym picked)

      by_parts : Parts act ok (is_chosen p && not (is_past p || not found)) (memory_seen m) (memory_seen new)
      by_parts = subst (λ (b : Bool). Parts act b (is_chosen p && not (is_past p || not found)) (memory_seen m) (memory_seen new)) (sym ok_by)
          (parts act (memory_seen m) (memory_seen new) (is_past p) (is_chosen p) found (subst (λ (o : Outcome). Took act o found (memory_seen m) (memory_seen new)) (sym picked) took))

-- ---- How a read ends.

-- it fails where it was to fail, by its outcome's tests
reads_fail : (past chosen bad dry : Bool) → IsFalse (not ((not (is_whole (pick past chosen)) || bad) && not dry)) ↔ IsTrue ((past || chosen || bad) && not dry)
reads_fail false false false false = (λ f. absurd (cc f), λ t. absurd (cc t))
reads_fail true chosen bad false = (λ f. refl, λ t. refl)
reads_fail false true bad false = (λ f. refl, λ t. refl)
reads_fail false false true false = (λ f. refl, λ t. refl)
reads_fail true chosen bad true = (λ f. absurd (cc f), λ t. absurd (cc t))
reads_fail false true bad true = (λ f. absurd (cc f), λ t. absurd (cc t))
reads_fail false false true true = (λ f. absurd (cc f), λ t. absurd (cc t))
reads_fail false false false true = (λ f. absurd (cc f), λ t. absurd (cc t))

pub grown : (ok : Bool) (range : DiskRange) (old new : List DiskRange) → new ≡ (if ok then old else old ++ range ∷ []) → Grows old new
grown true range old new is = subst (λ (l : List DiskRange). Grows old l) (sym is) (grows_itself old)
grown false range old new is = (range ∷ [], is)

pub same_where_ok : {T E : Type 0} (r : Result T E) (range : DiskRange) (old new : List DiskRange) → new ≡ (if is_ok r then old else old ++ range ∷ []) → OnOk r (new ≡ old)
same_where_ok (Ok x) range old new is = is
same_where_ok (Err e) range old new is = tt

pub added_where_not : {T E : Type 0} (r : Result T E) (range : DiskRange) (old new : List DiskRange) → new ≡ (if is_ok r then old else old ++ range ∷ []) → OnErr r (new ≡ old ++ range ∷ [])
added_where_not (Ok x) range old new is = tt
added_where_not (Err e) range old new is = is

module _ (range : DiskRange) (m new : MemoryHost) (outcome : Outcome) (ok : Bool) (plan : plan_of new ≡ next_plan (plan_of m)) where
  abbrev q : Plan
  q = plan_of new

  pub ends_read : outcome_of (next_plan (plan_of m)) ≡ outcome → new.bad ≡ m.bad → new.talk_faults ≡ m.talk_faults
      → EndsRead (not (is_whole outcome) || is_unreadable m.bad.items range) ok range m.failed.items new.failed.items m.disk_faults new.disk_faults m.dry new.dry
      → TakesNothing (memory_seen m) (memory_seen new) → EndsCall (Act.Read range) m new ok
  ends_read is bad talk ended nothing = record {
    ran_dry = ended.ran_dry;
    plan = plan;
    bad = same_bad;
    fails = subst (λ (l : List DiskRange). IsFalse ok ↔ IsTrue ((is_past q || is_chosen q || is_unreadable l range) && not ended.ran_dry)) (sym same_bad)
        (subst (λ (b : Bool). IsFalse b ↔ IsTrue ((is_past q || is_chosen q || is_unreadable m.bad.items range) && not ended.ran_dry)) (sym ok_by) (reads_fail (is_past q) (is_chosen q) (is_unreadable m.bad.items range) ended.ran_dry));
    dry = ended.dry_is;
    disk_faults = failed_count ok m.disk_faults new.disk_faults ended.faults_are;
    talk_faults = talk ∙ kept_count ok m.talk_faults;
    pending = λ t. tt;
    took_half = λ f t. nothing;
    took_nothing = λ f n. nothing;
  }
    where
      same_bad : new.bad.items ≡ m.bad.items
      same_bad = ap (λ (v : Vec DiskRange Global). v.items) bad

      picked : pick (is_past q) (is_chosen q) ≡ outcome
      picked = subst (λ (r : Plan). outcome_of r ≡ outcome) (sym plan) is

      ok_by : ok ≡ not ((not (is_whole (pick (is_past q) (is_chosen q))) || is_unreadable m.bad.items range) && not ended.ran_dry)
      ok_by = ended.ok_is ∙ ap (λ (o : Outcome). not ((not (is_whole o) || is_unreadable m.bad.items range) && not ended.ran_dry)) (sym picked)

-- the result of a step, where the call didn't fail
pub and_ok : {T U E : Type 0} (r : Result U E) (step : Result T E) (outcome : Outcome) → is_ok r ≡ is_whole outcome && is_ok step → is_ok (result_and r step) ≡ is_ok r
and_ok (Err e) step outcome ok = refl
and_ok (Ok x) step Whole ok = sym ok
and_ok (Ok x) step Half ok = absurd (cc ok)
and_ok (Ok x) step Nothing ok = absurd (cc ok)

pub if_both : {T U E : Type 0} (P : T → Type 0) (r : Result U E) (step : Result T E) → (is_ok r ≡ true → IfOk step P) → IfOk (result_and r step) P
if_both P (Ok x) step is = is refl
if_both P (Err e) step is = tt
