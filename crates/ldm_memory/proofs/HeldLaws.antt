-- A host in memory holds what its calls have made: at its start, and with each call more.
use Rattle.std.proofs.Common.{[], ◌≡◌, ℕ, ◌+◌, ◌*◌, ◌/◌, ◌<◌, ◌≤◌, List, length, slice_index, ◌∙◌, ap, arith, Vec, zero, suc, ◌∷◌, ◌++◌, get_or, set, refl, sym, ◌-◌, take, drop, slice_range, rules, inl, inr, subst, Bool, true, false}
use Rattle.std.proofs.lemmas.List.{map-set, get_or-map, length-map, places, same_lists, take-append-drop, drop-drop, take_at, length-set, length-take, set-get_or, ext_get_or}
use Rattle.std.specs.declared.alloc.Global.{Global}
use Rattle.ldm_host.specs.Seen.{image}
use Rattle.ldm_host.specs.Images.{items_of}
use Rattle.ldm_memory.specs.Story.{Disk, contents, disk_at, sizes_of, StoryState, written_disk, synced_disk, after, run, state_at, fresh_state, Agrees, Outside}
use Rattle.ldm_memory.specs.StoryLaws.{image_at, size_at, one_each, all_calls}
use Rattle.ldm_bytes.specs.Numbers.{IsBytes}
use Rattle.std.proofs.lemmas.Bool.{cases_lt}
use Rattle.std.proofs.Math.Seq.{take-nil}
use Rattle.ldm_bytes.proofs.PlaceLaws.{length-put}
use Rattle.ldm_bytes.proofs.ByteLaws.{bytes_put, IsBytes-take}
use Rattle.ldm_memory.specs.Kept.{IsHeld, IsKeptHost}
use Rattle.ldm_memory.specs.declared.call.Call.{Call}
use Rattle.ldm_host.proofs.Relations.{torn_itself}
use Rattle.ldm_memory.proofs.CallLaws.{sooner, last, torn_agrees, run_push, contents_set}
use Rattle.ldm_bytes.specs.Places.{put}
use Rattle.ldm_memory.specs.declared.call.Call.TheVariants.{Write, Sync, Hear, Say, Nothing}
use Rattle.ldm_memory.specs.declared.outcome.Outcome.{Outcome}
use Rattle.ldm_memory.specs.declared.outcome.Outcome.TheVariants.{Whole, Half}
use Rattle.ldm_memory.specs.Ending.{first_half}
use Rattle.ldm_memory.specs.Steps.{AddsCall, IsHear, IsNothing, IsSay, IsSayOf, IsSync, IsWrite, IsWriteOf, held_after, bytes_placed, said_after}

-- ---- What a call may ask of a disk lies in the bytes that are held.

module _ (now : List (Vec ℕ Global)) (disks : List Disk) (is : items_of now ≡ contents disks) (disk : ℕ) (lt : disk < length (sizes_of disks)) where
  pub image_is : image (items_of now) disk ≡ image (contents disks) disk
  image_is = ap (λ (l : List (List ℕ)). image l disk) is

  pub size_is : length (image (items_of now) disk) / 512 ≡ slice_index (sizes_of disks) disk
  size_is = ap (λ (l : List ℕ). length l / 512) image_is ∙ size_at disks disk

  pub there : disk < length now
  there = omega (arith, lt, length-map now (λ v. v.items), ap length is, one_each disks)

  pub fits : (at n : ℕ) → at + n ≤ 512 * slice_index (sizes_of disks) disk → at + n ≤ length (image (items_of now) disk)
  fits at n le = omega (arith, le, size_is)

pub fits_disk : (disks : List Disk) (disk at n : ℕ) → at + n ≤ 512 * slice_index (sizes_of disks) disk → at + n ≤ length (disk_at disks disk).content
fits_disk disks disk at n le = omega (arith, le, size_at disks disk, ap length (image_at disks disk))

-- ---- Vectors of vectors, as lists of lists.

pub items_set : (vs : List (Vec ℕ Global)) (i : ℕ) (v : Vec ℕ Global) → items_of (set vs i v) ≡ set (items_of vs) i v.items
items_set vs i v = map-set (λ v. v.items) vs i v

-- what `vs[i]` gives
pub image_read : (vs : List (Vec ℕ Global)) (i : ℕ) (v : Vec ℕ Global) → i < length vs → v ≡ get_or vs i v → image (items_of vs) i ≡ v.items
image_read vs i v lt is = get_or-map (λ w. w.items) vs i v [] lt ∙ ap (λ (w : Vec ℕ Global). w.items) (sym is)

-- ---- What moves from the script to a buffer.

module _ (script buf moved : List ℕ) (heard n : ℕ) (is : moved ≡ slice_range script heard (heard + n)) (fits : heard + n ≤ length script) where
  size : length moved ≡ n
  size = ap length is ∙ search (rules, places)

  part : slice_range script heard (heard + n) ≡ take n (drop heard script)
  part = let same : heard + n - heard ≡ n = omega arith in ap (λ (k : ℕ). take k (drop heard script)) same

  front : take n (moved ++ drop n buf) ≡ take n (drop heard script)
  front = take_at moved (drop n buf) n size ∙ is ∙ part

  pub left_is : drop heard script ≡ take n (moved ++ drop n buf) ++ drop (heard + n) script
  left_is = sym (ap (λ (l : List ℕ). l ++ drop (heard + n) script) front ∙ ap (λ (l : List ℕ). take n (drop heard script) ++ l) (sym (drop-drop n heard script)) ∙ take-append-drop n (drop heard script))

  pub heard_is : take (heard + n) script ≡ take heard script ++ take n (moved ++ drop n buf)
  heard_is = same_lists (take (heard + n) script) (take heard script ++ take n (drop heard script)) (search (rules, places)) (λ k d h. grind (arith, places)) ∙ ap (λ (l : List ℕ). take heard script ++ l) (sym front)

-- ---- What each disk is, from call to call.

-- a disk with nothing pending
clean : (bytes : List ℕ) → IsBytes bytes → IsHeld (record { content = bytes; synced = bytes; pending = [] })
clean bytes are = record { bytes = are; within = omega arith; old = record { size = refl; bytes = are; outside = λ k out. refl } }

pub held_written : (d : Disk) (at asked : ℕ) (taken : List ℕ) → length taken ≤ asked → at + asked ≤ length d.content → IsBytes taken → IsHeld d → IsHeld (written_disk d at taken asked)
held_written d at asked taken short fits are held = record {
  bytes = bytes_put d.content taken at (omega (arith, short, fits)) held.bytes are;
  within = omega (arith, length-put d.content at taken (omega (arith, short, fits)), held.within, fits);
  old = torn_agrees d at asked taken d.synced d.synced short fits held.old (torn_itself at asked d.synced) held.old.bytes;
}

pub held_synced : (d : Disk) → IsHeld d → IsHeld (synced_disk d)
held_synced d held = clean d.content held.bytes

pub held_set : (disks : List Disk) (disk : ℕ) (d : Disk) → ((other : ℕ) → IsHeld (disk_at disks other)) → IsHeld d → (other : ℕ) → IsHeld (disk_at (set disks disk d) other)
held_set [] disk d all is other = all other
held_set (e ∷ disks) zero d all is zero = is
held_set (e ∷ disks) zero d all is (suc other) = all (suc other)
held_set (e ∷ disks) (suc disk) d all is zero = all zero
held_set (e ∷ disks) (suc disk) d all is (suc other) = held_set disks disk d (λ o. all (suc o)) is other

-- with one call more
pub held_push : (first : StoryState) (calls : List Call) (call : Call) → ((k disk : ℕ) → IsHeld (disk_at (state_at first calls k).disks disk))
    → ((disk : ℕ) → IsHeld (disk_at (after (run first calls) call).disks disk)) → (k disk : ℕ) → IsHeld (disk_at (state_at first (calls ++ call ∷ []) k).disks disk)
held_push first calls call all then k disk =
    elim (cases_lt (length calls) k) [
      | inl lt ↦ subst (λ (s : StoryState). IsHeld (disk_at s.disks disk)) (sym (last first calls call k lt)) (then disk)
      | inr le ↦ subst (λ (s : StoryState). IsHeld (disk_at s.disks disk)) (sym (sooner first calls call k le)) (all k disk)
    ]

held_disk : (images : List (List ℕ)) → ((disk : ℕ) → IsBytes (image images disk)) → (disk : ℕ) → IsHeld (disk_at (fresh_state images).disks disk)
held_disk [] are disk = clean [] (λ k. omega arith)
held_disk (bytes ∷ images) are zero = clean bytes (are zero)
held_disk (bytes ∷ images) are (suc disk) = held_disk images (λ d. are (suc d)) disk

-- at the start
pub held_fresh : (images : List (List ℕ)) → ((disk : ℕ) → IsBytes (image images disk)) → (k disk : ℕ) → IsHeld (disk_at (state_at (fresh_state images) [] k).disks disk)
held_fresh images are k disk =
    subst (λ (l : List Call). IsHeld (disk_at (run (fresh_state images) l).disks disk)) (sym (take-nil k)) (held_disk images are disk)

-- ---- The calls keep what a host in memory holds what its calls have made.

module _ (first : List (List ℕ)) (calls : List Call) (script : List ℕ) (now : List (Vec ℕ Global)) (said : List ℕ) (heard : ℕ) (handed : List ℕ) (kept : IsKeptHost first calls script now said heard handed) where
  abbrev reached : StoryState
  reached = run (fresh_state first) calls

  held_there : (disk : ℕ) → IsHeld (disk_at reached.disks disk)
  held_there disk = subst (λ (s : StoryState). IsHeld (disk_at s.disks disk)) (all_calls (fresh_state first) calls (length calls) (omega arith)) (kept.held (length calls) disk)

  kept_write : (longer : List Call) (disk at asked : ℕ) (bytes : Vec ℕ Global) (taken : List ℕ) (next : List (Vec ℕ Global)) (other : List ℕ)
      → longer ≡ calls ++ Write disk at bytes asked ∷ [] → bytes.items ≡ taken
      → length bytes.items ≤ asked → at + asked ≤ length (disk_at reached.disks disk).content → IsBytes bytes.items
      → items_of next ≡ set (items_of now) disk (put (image (items_of now) disk) at taken) → length other ≡ length handed
      → IsKeptHost first longer script next said heard other
  kept_write longer disk at asked bytes taken next other is same short fits small put_there counts = record {
    content = put_there ∙ ap (λ (l : List (List ℕ)). set l disk (put (image l disk) at taken)) kept.content ∙ ap (λ (l : List ℕ). set (contents reached.disks) disk (put (image (contents reached.disks) disk) at l)) (sym same) ∙ sym made;
    said_is = kept.said_is ∙ sym (ap (λ (s : StoryState). s.said) ran);
    heard_is = kept.heard_is ∙ sym (ap (λ (s : StoryState). s.heard) ran);
    heard_fits = kept.heard_fits;
    each = counts ∙ kept.each ∙ sym lengths;
    held = subst (λ (l : List Call). (k disk : ℕ) → IsHeld (disk_at (state_at (fresh_state first) l k).disks disk)) (sym is) (held_push (fresh_state first) calls (Write disk at bytes asked) kept.held
        (held_set reached.disks disk (written_disk (disk_at reached.disks disk) at bytes.items asked) held_there (held_written (disk_at reached.disks disk) at asked bytes.items short fits small (held_there disk))));
  }
    where
      ran : run (fresh_state first) longer ≡ after reached (Write disk at bytes asked)
      ran = ap (λ (l : List Call). run (fresh_state first) l) is ∙ run_push (fresh_state first) calls (Write disk at bytes asked)

      made : contents (run (fresh_state first) longer).disks ≡ set (contents reached.disks) disk (put (image (contents reached.disks) disk) at bytes.items)
      made = ap (λ (s : StoryState). contents s.disks) ran ∙ contents_set reached.disks disk (written_disk (disk_at reached.disks disk) at bytes.items asked) ∙ ap (λ (l : List ℕ). set (contents reached.disks) disk (put l at bytes.items)) (sym (image_at reached.disks disk))

      lengths : length next ≡ length now
      lengths = omega (arith, length-map next (λ v. v.items), length-map now (λ v. v.items), ap length put_there, length-set (items_of now) disk (put (image (items_of now) disk) at taken))

  ran_to : (call : Call) → run (fresh_state first) (calls ++ call ∷ []) ≡ after reached call
  ran_to call = run_push (fresh_state first) calls call

  kept_same : (call : Call) → contents (after reached call).disks ≡ contents reached.disks → (after reached call).said ≡ reached.said → (after reached call).heard ≡ reached.heard
      → ((disk : ℕ) → IsHeld (disk_at (after reached call).disks disk)) → IsKeptHost first (calls ++ call ∷ []) script now said heard handed
  kept_same call content_same said_same heard_same held = record {
    content = kept.content ∙ sym (ap (λ (s : StoryState). contents s.disks) (ran_to call) ∙ content_same);
    said_is = kept.said_is ∙ sym (ap (λ (s : StoryState). s.said) (ran_to call) ∙ said_same);
    heard_is = kept.heard_is ∙ sym (ap (λ (s : StoryState). s.heard) (ran_to call) ∙ heard_same);
    heard_fits = kept.heard_fits;
    each = kept.each;
    held = held_push (fresh_state first) calls call kept.held held;
  }

  kept_sync : (disk : ℕ) → IsKeptHost first (calls ++ Sync disk ∷ []) script now said heard handed
  kept_sync disk = kept_same (Sync disk)
      (contents_set reached.disks disk (synced_disk (disk_at reached.disks disk)) ∙ ap (λ (l : List ℕ). set (contents reached.disks) disk l) (sym (image_at reached.disks disk)) ∙ set-get_or (contents reached.disks) disk [])
      refl refl (held_set reached.disks disk (synced_disk (disk_at reached.disks disk)) held_there (held_synced (disk_at reached.disks disk) (held_there disk)))

  kept_say : (bytes : Vec ℕ Global) (longer_said : List ℕ) → longer_said ≡ said ++ bytes.items → IsKeptHost first (calls ++ Say bytes ∷ []) script now longer_said heard handed
  kept_say bytes longer_said is = record {
    content = kept.content ∙ sym (ap (λ (s : StoryState). contents s.disks) (ran_to (Say bytes)));
    said_is = is ∙ ap (λ (l : List ℕ). l ++ bytes.items) kept.said_is ∙ sym (ap (λ (s : StoryState). s.said) (ran_to (Say bytes)));
    heard_is = kept.heard_is ∙ sym (ap (λ (s : StoryState). s.heard) (ran_to (Say bytes)));
    heard_fits = kept.heard_fits;
    each = kept.each;
    held = held_push (fresh_state first) calls (Say bytes) kept.held held_there;
  }

  kept_hear : (count : ℕ) → heard + count ≤ length script → IsKeptHost first (calls ++ Hear count ∷ []) script now said (heard + count) handed
  kept_hear count fits = record {
    content = kept.content ∙ sym (ap (λ (s : StoryState). contents s.disks) (ran_to (Hear count)));
    said_is = kept.said_is ∙ sym (ap (λ (s : StoryState). s.said) (ran_to (Hear count)));
    heard_is = ap (λ (n : ℕ). n + count) kept.heard_is ∙ sym (ap (λ (s : StoryState). s.heard) (ran_to (Hear count)));
    heard_fits = fits;
    each = kept.each;
    held = held_push (fresh_state first) calls (Hear count) kept.held held_there;
  }

  -- ---- what the steps leave, by the outcome, and whether they found memory

  -- calls with one more
  kept_with : (said' : List ℕ) (heard' : ℕ) (call made : Call) (new : List Call) → new ≡ calls ++ call ∷ [] → call ≡ made → IsKeptHost first (calls ++ made ∷ []) script now said' heard' handed → IsKeptHost first new script now said' heard' handed
  kept_with said' heard' call made new is same = subst (λ (l : List Call). IsKeptHost first l script now said' heard' handed) (sym (is ∙ ap (λ (x : Call). calls ++ x ∷ []) same))

  kept_nothing : (new : List Call) (call : Call) → IsNothing call → new ≡ calls ++ call ∷ [] → IsKeptHost first new script now said heard handed
  kept_nothing new call none is = kept_with said heard call Nothing new is none (kept_same Nothing refl refl refl held_there)

  kept_none : (new : List Call) → new ≡ calls → IsKeptHost first new script now said heard handed
  kept_none new same = subst (λ (l : List Call). IsKeptHost first l script now said heard handed) (sym same) kept

  pub kept_sync_part : (outcome : Outcome) (found : Bool) (disk : ℕ) (new : List Call) → AddsCall found (IsSync outcome disk) calls new → IsKeptHost first new script now said heard handed
  kept_sync_part Whole true disk new adds = kept_with said heard adds.0 (Sync disk) new adds.2 adds.1 (kept_sync disk)
  kept_sync_part outcome true disk new adds = kept_nothing new adds.0 adds.1 adds.2
  kept_sync_part outcome false disk new same = kept_none new same

  kept_said : (bytes : List ℕ) (call : Call) (new : List Call) (later : List ℕ) → IsSayOf bytes call → new ≡ calls ++ call ∷ [] → later ≡ said ++ bytes → IsKeptHost first new script now later heard handed
  kept_said bytes call new later says is made = kept_with later heard call (Say says.0) new is says.1 (kept_say says.0 later (made ∙ ap (λ (l : List ℕ). said ++ l) (sym says.2)))

  pub kept_say_part : (outcome : Outcome) (found : Bool) (bytes : List ℕ) (new : List Call) (later : List ℕ) → AddsCall found (IsSay outcome bytes) calls new → later ≡ said_after outcome found bytes said → IsKeptHost first new script now later heard handed
  kept_say_part Whole true bytes new later adds made = kept_said bytes adds.0 new later adds.1 adds.2 made
  kept_say_part Half true bytes new later adds made = kept_said (first_half bytes) adds.0 new later adds.1 adds.2 made
  kept_say_part Outcome.Nothing true bytes new later adds made = subst (λ (l : List ℕ). IsKeptHost first new script now l heard handed) (sym made) (kept_nothing new adds.0 adds.1 adds.2)
  kept_say_part Whole false bytes new later same made = subst (λ (l : List ℕ). IsKeptHost first new script now l heard handed) (sym made) (kept_none new same)
  kept_say_part Half false bytes new later same made = subst (λ (l : List ℕ). IsKeptHost first new script now l heard handed) (sym made) (kept_none new same)
  kept_say_part Outcome.Nothing false bytes new later same made = subst (λ (l : List ℕ). IsKeptHost first new script now l heard handed) (sym made) (kept_none new same)

  kept_heard : (new : List Call) (later : ℕ) → later ≡ heard → IsKeptHost first new script now said heard handed → IsKeptHost first new script now said later handed
  kept_heard new later same = subst (λ (n : ℕ). IsKeptHost first new script now said n handed) (sym same)

  pub kept_hear_part : (outcome : Outcome) (found : Bool) (new : List Call) (later : ℕ) → AddsCall found (IsHear outcome heard later) calls new → (found ≡ false → later ≡ heard) → later ≤ length script → IsKeptHost first new script now said later handed
  kept_hear_part Whole true new later adds none fits =
      let hears = adds.1 in
      subst (λ (n : ℕ). IsKeptHost first new script now said n handed) (sym hears.2)
      (kept_with said (heard + hears.0) adds.0 (Hear hears.0) new adds.2 hears.1 (kept_hear hears.0 (omega (arith, hears.2, fits))))
  kept_hear_part outcome true new later adds none fits = kept_heard new later adds.1.1 (kept_nothing new adds.0 adds.1.0 adds.2)
  kept_hear_part outcome false new later same none fits = kept_heard new later (none refl) (kept_none new same)

  kept_held : (new : List Call) (next : List (Vec ℕ Global)) (other : List ℕ) → items_of next ≡ items_of now → length other ≡ length handed → IsKeptHost first new script now said heard handed → IsKeptHost first new script next said heard other
  kept_held new next other same counts was = record {
    content = same ∙ was.content;
    said_is = was.said_is;
    heard_is = was.heard_is;
    heard_fits = was.heard_fits;
    each = let many = ap length same in omega (arith, counts, was.each, length-map next (λ v. v.items), length-map now (λ v. v.items), many);
    held = was.held;
  }

  module _ (disk at : ℕ) (bytes : List ℕ) (next : List (Vec ℕ Global)) (other : List ℕ) (counts : length other ≡ length handed) (fits : at + length bytes ≤ length (disk_at reached.disks disk).content) (small : IsBytes bytes) where
    kept_placed : (taken : List ℕ) (call : Call) (new : List Call) → length taken ≤ length bytes → IsBytes taken → IsWriteOf disk at taken (length bytes) call → new ≡ calls ++ call ∷ []
        → items_of next ≡ bytes_placed true disk at taken (items_of now) → IsKeptHost first new script next said heard other
    kept_placed taken call new short are writes is made =
        kept_write new disk at (length bytes) writes.0 taken next other (is ∙ ap (λ (x : Call). calls ++ x ∷ []) writes.1) writes.2 (omega (arith, ap length writes.2, short)) fits
        (subst IsBytes (sym writes.2) are) made counts

    pub kept_write_part : (outcome : Outcome) (found : Bool) (new : List Call) → AddsCall found (IsWrite outcome disk at bytes) calls new → items_of next ≡ held_after outcome found disk at bytes (items_of now) → IsKeptHost first new script next said heard other
    kept_write_part Whole true new adds made = kept_placed bytes adds.0 new (omega arith) small adds.1 adds.2 made
    kept_write_part Half true new adds made = kept_placed (first_half bytes) adds.0 new (omega (arith, length-take (length bytes / 2) bytes)) (IsBytes-take (length bytes / 2) bytes small) adds.1 adds.2 made
    kept_write_part Outcome.Nothing true new adds made = kept_held new next other made counts (kept_nothing new adds.0 adds.1 adds.2)
    kept_write_part Whole false new same made = kept_held new next other made counts (kept_none new same)
    kept_write_part Half false new same made = kept_held new next other made counts (kept_none new same)
    kept_write_part Outcome.Nothing false new same made = kept_held new next other made counts (kept_none new same)

-- ---- A host in memory at its start.

pub contents_fresh : (images : List (List ℕ)) → contents (fresh_state images).disks ≡ images
contents_fresh [] = refl
contents_fresh (bytes ∷ images) = ap (λ (l : List (List ℕ)). bytes ∷ l) (contents_fresh images)

none_pending : (images : List (List ℕ)) (i : ℕ) → (disk_at (fresh_state images).disks i).pending ≡ []
none_pending [] i = refl
none_pending (bytes ∷ images) zero = refl
none_pending (bytes ∷ images) (suc i) = none_pending images i

pub fresh_settled : (images : List (List ℕ)) (calls : List Call) → calls ≡ [] → (disk : ℕ) (c : List ℕ) → Agrees (disk_at (run (fresh_state images) calls).disks disk) c → c ≡ image (contents (run (fresh_state images) calls).disks) disk
fresh_settled images calls is disk c agrees =
    subst (λ (l : List Call). c ≡ image (contents (run (fresh_state images) l).disks) disk) (sym is)
    (whole (subst (λ (l : List Call). Agrees (disk_at (run (fresh_state images) l).disks disk) c) is agrees) ∙ sym (image_at (fresh_state images).disks disk))
  where
    whole : Agrees (disk_at (fresh_state images).disks disk) c → c ≡ (disk_at (fresh_state images).disks disk).content
    whole a = ext_get_or 0 c (disk_at (fresh_state images).disks disk).content a.size (λ k lt. a.outside k (subst (λ (l : List (ℕ × ℕ)). Outside l k) (sym (none_pending images disk)) tt))

pub fresh_kept : (images : List (List ℕ)) (calls : List Call) (script : List ℕ) (held : List (Vec ℕ Global)) (said : List ℕ) (handed : List ℕ)
    → calls ≡ [] → said ≡ [] → images ≡ items_of held → length handed ≡ length held → ((disk : ℕ) → IsBytes (image images disk)) → IsKeptHost images calls script held said 0 handed
fresh_kept images calls script held said handed none silent same counts bytes =
    subst (λ (l : List Call). IsKeptHost images l script held said 0 handed) (sym none) (record {
      content = sym same ∙ sym (contents_fresh images);
      said_is = silent;
      heard_is = refl;
      heard_fits = omega arith;
      each = counts;
      held = held_fresh images bytes;
    })
