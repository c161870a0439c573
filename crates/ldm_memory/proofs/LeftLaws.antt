-- What a stop leaves where the ranges that are pending hold what a filling says, from call to call.
use Rattle.std.proofs.Common.{[], ◌≡◌, ◌≢◌, ◌⊎◌, inl, inr, ℕ, ◌+◌, ◌-◌, ◌<◌, ◌≤◌, List, length, get_or, refl, sym, ◌∙◌, ap, subst, arith, ⊎_elim, zero, suc, ◌/◌, ◌==◌, min, Bool, true, false, if◌then◌else◌, ◌∷◌, ◌++◌, set, map, take, drop, replicate, slice_index, Vec}
use Rattle.std.proofs.lemmas.Bool.{cases_eq, eq-eqb, ne_eqb}
use Rattle.ldm_memory.specs.declared.call.Call.{Call}
use Rattle.ldm_memory.specs.declared.call.Call.TheVariants.{Sync, Nothing, Write}
use Rattle.ldm_memory.specs.Left.{IsLastSync, overlaid, left_on, left_of, written_on, filled_on}
use Rattle.std.proofs.Math.Nat.{suc-ne-zero}
use Rattle.std.proofs.Math.Seq.{take-suc}
use Rattle.std.proofs.lemmas.List.{length-map, length-set, length-append, length-drop, length-take, length-replicate, get_or-set_same, get_or-set_other, get_or_default, get_or-take, map-append}
use Rattle.std.specs.declared.alloc.Global.{Global}
use Rattle.ldm_bytes.specs.Numbers.{IsBytes}
use Rattle.ldm_bytes.specs.Places.{put}
use Rattle.ldm_bytes.proofs.PlaceLaws.{length-put}
use Rattle.ldm_bytes.proofs.ByteLaws.{put_before, put_behind, bytes_put}
use Rattle.ldm_host.specs.Seen.{Leaves, image}
use Rattle.ldm_host.specs.Images.{items_of}
use Rattle.ldm_memory.specs.declared.memory.MemoryHost.{MemoryHost}
use Rattle.ldm_memory.specs.declared.left.Filling.{Filling}
use Rattle.ldm_memory.specs.declared.left.Filling.TheVariants.{Old, New, Fill}
use Rattle.ldm_memory.specs.Story.{Disk, StoryState, Agrees, Outside, disk_at, no_disk, written_disk, synced_disk, after, run, state_at, fresh_state, contents, sizes_of}
use Rattle.ldm_memory.specs.StoryLaws.{image_at, stays, all_calls}
use Rattle.ldm_memory.specs.Laws.{held_now}
use Rattle.ldm_memory.specs.Memory.{memory_seen, story_of}
use Rattle.ldm_memory.specs.Kept.{IsHeld, reach}
use Rattle.ldm_memory.proofs.CallLaws.{run_push}

-- ---- The last sync of a disk among the calls, as they are walked.

-- among the first so many calls
pub record IsLastBy (calls : List Call) (disk place count : ℕ) : Type 0 where
  pub within : count ≤ place
  pub is_sync : (count ≡ 0) ⊎ (get_or calls (count - 1) Nothing ≡ Sync disk)
  pub none_since : (k : ℕ) → count ≤ k → k < place → get_or calls k Nothing ≢ Sync disk

-- ---- What a stop leaves where the ranges that are pending hold what a filling says, from call to call.

-- ---- ranges overlaid with one byte

pub length-filled : (byte : ℕ) (ranges : List (ℕ × ℕ)) (bytes : List ℕ) → reach ranges ≤ length bytes → length (overlaid byte ranges bytes) ≡ length bytes
length-filled byte [] bytes within = refl
length-filled byte (range ∷ ranges) bytes within =
    let whole = length-filled byte ranges bytes (omega (arith, within)) in
    length-put (overlaid byte ranges bytes) range.0 (replicate range.1 byte) (omega (arith, within, whole, length-replicate range.1 byte)) ∙ whole

filled_bytes : (byte : ℕ) (ranges : List (ℕ × ℕ)) (bytes : List ℕ) → byte < 256 → reach ranges ≤ length bytes → IsBytes bytes → IsBytes (overlaid byte ranges bytes)
filled_bytes byte [] bytes small within are = are
filled_bytes byte (range ∷ ranges) bytes small within are =
    let whole = length-filled byte ranges bytes (omega (arith, within)) in
    bytes_put (overlaid byte ranges bytes) (replicate range.1 byte) range.0 (omega (arith, within, whole, length-replicate range.1 byte))
    (filled_bytes byte ranges bytes small (omega (arith, within)) are) (same range.1)
  where
    same : (n : ℕ) → IsBytes (replicate n byte)
    same zero k = omega arith
    same (suc n) zero = small
    same (suc n) (suc k) = same n k

filled_outside : (byte : ℕ) (ranges : List (ℕ × ℕ)) (bytes : List ℕ) → reach ranges ≤ length bytes → (k : ℕ) → Outside ranges k → slice_index (overlaid byte ranges bytes) k ≡ slice_index bytes k
filled_outside byte [] bytes within k out = refl
filled_outside byte (range ∷ ranges) bytes within k out =
    let whole = length-filled byte ranges bytes (omega (arith, within)) in
    let many = length-replicate range.1 byte in
    let fits : range.0 + length (replicate range.1 byte) ≤ length (overlaid byte ranges bytes) = omega (arith, within, whole, many) in
    ⊎_elim
    (λ lt. put_before (overlaid byte ranges bytes) (replicate range.1 byte) range.0 fits k lt)
    (λ ge. put_behind (overlaid byte ranges bytes) (replicate range.1 byte) range.0 fits k (omega (arith, ge, many)))
    out.0
    ∙ filled_outside byte ranges bytes (omega (arith, within)) k out.1

-- ---- a filling may be left

abbrev pub IsSmall : Filling → Type 0
IsSmall filling = (byte : ℕ) → filling ≡ Fill byte → byte < 256

pub left_agrees : (filling : Filling) (disk : Disk) → IsSmall filling → IsHeld disk → Agrees disk (left_on filling disk)
left_agrees Old disk small held = held.old
left_agrees New disk small held = stays disk held.bytes
left_agrees (Fill byte) disk small held = record {
  size = length-filled byte disk.pending disk.content held.within;
  bytes = filled_bytes byte disk.pending disk.content (small byte refl) held.within held.bytes;
  outside = filled_outside byte disk.pending disk.content held.within;
}

pub left_image : (filling : Filling) (disks : List Disk) (disk : ℕ) → image (map (left_on filling) disks) disk ≡ left_on filling (disk_at disks disk)
left_image Old [] disk = refl
left_image New [] disk = refl
left_image (Fill byte) [] disk = refl
left_image filling (d ∷ disks) zero = refl
left_image filling (d ∷ disks) (suc disk) = left_image filling disks disk

-- ---- one disk, from call to call

pub fresh_disk : (images : List (List ℕ)) (disk : ℕ) → disk_at (fresh_state images).disks disk ≡ record { content = image images disk; synced = image images disk; pending = [] }
fresh_disk [] disk = refl
fresh_disk (bytes ∷ images) zero = refl
fresh_disk (bytes ∷ images) (suc disk) = fresh_disk images disk

fresh_count : (images : List (List ℕ)) → length (fresh_state images).disks ≡ length images
fresh_count images = length-map images (λ bytes. record { content = bytes; synced = bytes; pending = [] })

count_after : (s : StoryState) (call : Call) → length (after s call).disks ≡ length s.disks
count_after s (Write written at bytes asked) = length-set s.disks written (written_disk (disk_at s.disks written) at bytes.items asked)
count_after s (Sync synced) = length-set s.disks synced (synced_disk (disk_at s.disks synced))
count_after s call = refl

pub count_run : (s : StoryState) (calls : List Call) → length (run s calls).disks ≡ length s.disks
count_run s [] = refl
count_run s (call ∷ calls) = count_run (after s call) calls ∙ count_after s call

-- a write leaves as many bytes only where it lies in them
put_short : (old bytes : List ℕ) (at : ℕ) → at ≤ length old → length (put old at bytes) ≡ length old → at + length bytes ≤ length old
put_short old bytes at le same =
    let n = at + length bytes in
    let one : length ((take at old ++ bytes) ++ drop n old) ≡ length (take at old ++ bytes) + length (drop n old) = length-append (take at old ++ bytes) (drop n old) in
    let two : length (take at old ++ bytes) ≡ length (take at old) + length bytes = length-append (take at old) bytes in
    let front : length (take at old) ≡ min at (length old) = length-take at old in
    let back : length (drop n old) ≡ length old - n = length-drop n old in
    let sum : length old ≡ length (take at old) + length bytes + length (drop n old) = sym same ∙ one ∙ ap (λ (k : ℕ). k + length (drop n old)) two in
    omega (arith, le, sum, front, back)

module _ (disk : ℕ) where
  -- the disk after one call more
  abbrev after_on : Disk → Call → Disk
  after_on d (Write written at bytes asked) = if written == disk then written_disk d at bytes.items asked else d
  after_on d (Sync synced) = if synced == disk then synced_disk d else d
  after_on d _ = d

  set_on : (disks : List Disk) (other : ℕ) (f : Disk → Disk) → disk < length disks → disk_at (set disks other (f (disk_at disks other))) disk ≡ (if other == disk then f (disk_at disks disk) else disk_at disks disk)
  set_on disks other f lt =
      elim (cases_eq other disk) [
        | inl is ↦ subst (λ (o : ℕ). disk_at (set disks o (f (disk_at disks o))) disk ≡ (if o == disk then f (disk_at disks disk) else disk_at disks disk)) (sym is)
            (get_or-set_same disks disk (f (disk_at disks disk)) no_disk lt ∙ sym (ap (λ (b : Bool). if b then f (disk_at disks disk) else disk_at disks disk) (eq-eqb disk disk refl)))
        | inr ne ↦ get_or-set_other disks other disk (f (disk_at disks other)) no_disk (λ is. ne (sym is)) ∙ sym (ap (λ (b : Bool). if b then f (disk_at disks disk) else disk_at disks disk) (ne_eqb other disk ne))
      ]

  disk_after : (s : StoryState) (call : Call) → disk < length s.disks → disk_at (after s call).disks disk ≡ after_on (disk_at s.disks disk) call
  disk_after s (Write written at bytes asked) lt = set_on s.disks written (λ d. written_disk d at bytes.items asked) lt
  disk_after s (Sync synced) lt = set_on s.disks synced synced_disk lt
  disk_after s call lt = refl

  either : {X : Type 0} (f : Disk → X) (b : Bool) (x y : Disk) → f (if b then x else y) ≡ (if b then f x else f y)
  either f true x y = refl
  either f false x y = refl

  content_on : (d : Disk) (call : Call) → (after_on d call).content ≡ written_on disk call d.content
  content_on d (Write written at bytes asked) = either (λ x. x.content) (written == disk) (written_disk d at bytes.items asked) d
  content_on d (Sync synced) = same (synced == disk)
    where
      same : (b : Bool) → (if b then synced_disk d else d).content ≡ d.content
      same true = refl
      same false = refl
  content_on d call = refl

  pending_on : (byte : ℕ) (c : List ℕ) (d : Disk) (call : Call) → call ≢ Sync disk → overlaid byte (after_on d call).pending c ≡ filled_on disk byte call (overlaid byte d.pending c)
  pending_on byte c d (Write written at bytes asked) ne = either (λ x. overlaid byte x.pending c) (written == disk) (written_disk d at bytes.items asked) d
  pending_on byte c d (Sync synced) ne = ap (λ (b : Bool). overlaid byte (if b then synced_disk d else d).pending c) (ne_eqb synced disk (λ is. ne (ap Sync is)))
  pending_on byte c d call ne = refl

  synced_on : (d : Disk) (call : Call) → call ≢ Sync disk → (after_on d call).synced ≡ d.synced
  synced_on d (Write written at bytes asked) ne = same (written == disk)
    where
      same : (b : Bool) → (if b then written_disk d at bytes.items asked else d).synced ≡ d.synced
      same true = refl
      same false = refl
  synced_on d (Sync synced) ne = ap (λ (b : Bool). (if b then synced_disk d else d).synced) (ne_eqb synced disk (λ is. ne (ap Sync is)))
  synced_on d call ne = refl

  length_on : (d : Disk) (call : Call) → IsHeld d → IsHeld (after_on d call) → length (after_on d call).content ≡ length d.content
  length_on d (Write written at bytes asked) held later = same (written == disk) later
    where
      same : (b : Bool) → IsHeld (if b then written_disk d at bytes.items asked else d) → length (if b then written_disk d at bytes.items asked else d).content ≡ length d.content
      same true h = sym h.old.size ∙ held.old.size
      same false h = refl
  length_on d (Sync synced) held later = ap length (content_on d (Sync synced))
  length_on d call held later = refl

  module _ (first : List (List ℕ)) (calls : List Call) (held : (k other : ℕ) → IsHeld (disk_at (state_at (fresh_state first) calls k).disks other)) (lt : disk < length first) where
    -- the disk after the first k calls
    abbrev pub at_time : ℕ → Disk
    at_time k = disk_at (state_at (fresh_state first) calls k).disks disk

    abbrev call_at : ℕ → Call
    call_at k = get_or calls k Nothing

    there : (k : ℕ) → disk < length (state_at (fresh_state first) calls k).disks
    there k = omega (arith, lt, count_run (fresh_state first) (take k calls), fresh_count first)

    one_more : (k : ℕ) → k < length calls → take (k + 1) calls ≡ take k calls ++ call_at k ∷ []
    one_more k less = let next : k + 1 ≡ suc k = omega arith in ap (λ (n : ℕ). take n calls) next ∙ take-suc calls k Nothing less

    pub step : (k : ℕ) → k < length calls → at_time (k + 1) ≡ after_on (at_time k) (call_at k)
    step k less =
        ap (λ (l : List Call). disk_at (run (fresh_state first) l).disks disk) (one_more k less)
        ∙ ap (λ (s : StoryState). disk_at s.disks disk) (run_push (fresh_state first) (take k calls) (call_at k))
        ∙ disk_after (state_at (fresh_state first) calls k) (call_at k) (there k)

    pub starts : at_time 0 ≡ record { content = image first disk; synced = image first disk; pending = [] }
    starts = fresh_disk first disk

    pub length_at : (k : ℕ) → k ≤ length calls → length (at_time k).content ≡ length (image first disk)
    length_at zero le = ap (λ (d : Disk). length d.content) starts
    length_at (suc k) le =
        let next : suc k ≡ k + 1 = omega arith in
        let less : k < length calls = omega (arith, le) in
        let made = step k less in
        ap (λ (n : ℕ). length (at_time n).content) next ∙ ap (λ (d : Disk). length d.content) made
        ∙ length_on (at_time k) (call_at k) (held k disk) (subst IsHeld made (held (k + 1) disk)) ∙ length_at k (omega (arith, le))

    -- what a write asked and took lies in the disk
    pub write_fits : (k : ℕ) → k < length calls → (at asked : ℕ) (bytes : Vec ℕ Global) → call_at k ≡ Write disk at bytes asked
        → (at + asked ≤ length (at_time k).content) × (at + length bytes.items ≤ length (at_time k).content)
    write_fits k less at asked bytes is =
        let made : at_time (k + 1) ≡ written_disk (at_time k) at bytes.items asked =
        step k less ∙ ap (after_on (at_time k)) is ∙ ap (λ (b : Bool). if b then written_disk (at_time k) at bytes.items asked else at_time k) (eq-eqb disk disk refl) in
        let now : IsHeld (written_disk (at_time k) at bytes.items asked) = subst IsHeld made (held (k + 1) disk) in
        let same : length (put (at_time k).content at bytes.items) ≡ length (at_time k).content = sym now.old.size ∙ (held k disk).old.size in
        (omega (arith, now.within, same), put_short (at_time k).content bytes.items at (omega (arith, now.within, same)) same)

    module _ (count : ℕ) (is : IsLastSync calls disk count) where
      clean : (n : ℕ) → IsLastSync calls disk n → ((at_time n).synced ≡ (at_time n).content) × ((at_time n).pending ≡ [])
      clean zero last = (ap (λ (d : Disk). d.synced) starts ∙ sym (ap (λ (d : Disk). d.content) starts), ap (λ (d : Disk). d.pending) starts)
      clean (suc p) last =
          elim last.is_sync [
            | inl none ↦ absurd (suc-ne-zero p none)
            | inr sync ↦
                let before : suc p - 1 ≡ p = omega arith in
                let next : suc p ≡ p + 1 = omega arith in
                let made : at_time (suc p) ≡ synced_disk (at_time p) =
                ap at_time next ∙ step p (omega (arith, last.within)) ∙ ap (after_on (at_time p)) (sym (ap call_at before) ∙ sync) ∙ ap (λ (b : Bool). if b then synced_disk (at_time p) else at_time p) (eq-eqb disk disk refl) in
                (ap (λ (d : Disk). d.synced) made ∙ sym (ap (λ (d : Disk). d.content) made), ap (λ (d : Disk). d.pending) made)
          ]

      pub none_pending : (at_time count).pending ≡ []
      none_pending = (clean count is).1

      since : (n : ℕ) → count + n ≤ length calls → (at_time (count + n)).synced ≡ (at_time count).content
      since zero le = let same : count + 0 ≡ count = omega arith in ap (λ (k : ℕ). (at_time k).synced) same ∙ (clean count is).0
      since (suc n) le =
          let next : count + suc n ≡ count + n + 1 = omega arith in
          let less : count + n < length calls = omega (arith, le) in
          ap (λ (k : ℕ). (at_time k).synced) next ∙ ap (λ (d : Disk). d.synced) (step (count + n) less)
          ∙ synced_on (at_time (count + n)) (call_at (count + n)) (is.none_since (count + n) (omega arith) less) ∙ since n (omega (arith, le))

      -- what stood on the disk after its last sync
      pub last_content : (at_time count).content ≡ (at_time (length calls)).synced
      last_content =
          let all : count + (length calls - count) ≡ length calls = omega (arith, is.within) in
          sym (ap (λ (k : ℕ). (at_time k).synced) (sym all) ∙ since (length calls - count) (omega (arith, is.within)))

      -- one call more behind the last sync
      pub fills : (byte : ℕ) (c : List ℕ) (k : ℕ) → count ≤ k → k < length calls → overlaid byte (at_time (k + 1)).pending c ≡ filled_on disk byte (call_at k) (overlaid byte (at_time k).pending c)
      fills byte c k from less = ap (λ (d : Disk). overlaid byte d.pending c) (step k less) ∙ pending_on byte c (at_time k) (call_at k) (is.none_since k from less)

    -- one call more
    pub takes : (k : ℕ) → k < length calls → (at_time (k + 1)).content ≡ written_on disk (call_at k) (at_time k).content
    takes k less = ap (λ (d : Disk). d.content) (step k less) ∙ content_on (at_time k) (call_at k)

    -- the disk now
    pub now_is : at_time (length calls) ≡ disk_at (run (fresh_state first) calls).disks disk
    now_is = ap (λ (s : StoryState). disk_at s.disks disk) (all_calls (fresh_state first) calls (length calls) (omega arith))

-- a call at the front of a slice of all calls
pub front_call : (calls slice : List Call) (n i : ℕ) (call : Call) → slice ≡ calls → i < length (take n slice) → call ≡ get_or (take n slice) i call → (i < length calls) × (get_or calls i Nothing ≡ call)
front_call calls slice n i call same less is =
    let many : length (take n slice) ≡ min n (length slice) = length-take n slice in
    let there : i < length slice = omega (arith, less, many) in
    let back : get_or slice i Nothing ≡ call = get_or_default slice i Nothing call there ∙ sym (get_or-take n slice i call (omega (arith, less, many))) ∙ sym is in
    (subst (λ (l : List Call). i < length l) same there, subst (λ (l : List Call). get_or l i Nothing ≡ call) same back)

-- a host keeps as many images as it began with
pub as_many : (m : MemoryHost) → length (items_of m.first.items) ≡ length m.held.items
as_many m =
    let first = items_of m.first.items in
    let disks = (run (fresh_state first) m.calls.items).disks in
    let all : length (contents disks) ≡ length disks = length-map disks (λ d. d.content) in
    let now : length (items_of m.held.items) ≡ length m.held.items = length-map m.held.items (λ v. v.items) in
    omega (arith, fresh_count first, all, now, count_run (fresh_state first) m.calls.items, ap length m.kept.content)

-- the content of a disk keeps its length
pub held_length : (m : MemoryHost) (disk : ℕ) → disk < length (items_of m.first.items) → length (image (items_of m.held.items) disk) ≡ length (image (items_of m.first.items) disk)
held_length m disk lt =
    let first = items_of m.first.items in
    let calls = m.calls.items in
    ap (λ (l : List (List ℕ)). length (image l disk)) m.kept.content ∙ ap length (image_at (run (fresh_state first) calls).disks disk)
    ∙ ap (λ (d : Disk). length d.content) (sym (now_is disk first calls m.kept.held lt)) ∙ length_at disk first calls m.kept.held lt (length calls) (omega arith)

-- one disk for each image
pub held_count : (m : MemoryHost) → length (run (fresh_state (items_of m.first.items)) m.calls.items).disks ≡ length m.held.items
held_count m =
    let first = items_of m.first.items in
    count_run (fresh_state first) m.calls.items ∙ fresh_count first ∙ as_many m

pub content_is : (m : MemoryHost) (disk : ℕ) → image (items_of m.held.items) disk ≡ (disk_at (run (fresh_state (items_of m.first.items)) m.calls.items).disks disk).content
content_is m disk = ap (λ (l : List (List ℕ)). image l disk) m.kept.content ∙ image_at (run (fresh_state (items_of m.first.items)) m.calls.items).disks disk

-- one image more
pub left_push : (filling : Filling) (disks : List Disk) (disk : ℕ) (vs : List (Vec ℕ Global)) (v : Vec ℕ Global) → disk < length disks
    → items_of vs ≡ take disk (map (left_on filling) disks) → v.items ≡ left_on filling (disk_at disks disk) → items_of (vs ++ v ∷ []) ≡ take (disk + 1) (map (left_on filling) disks)
left_push filling disks disk vs v lt so_far is =
    let all = map (left_on filling) disks in
    let many : length all ≡ length disks = length-map disks (left_on filling) in
    let next : disk + 1 ≡ suc disk = omega arith in
    let here : v.items ≡ get_or all disk [] = is ∙ sym (left_image filling disks disk) in
    map-append (λ (w : Vec ℕ Global). w.items) vs (v ∷ []) ∙ ap (λ (l : List (List ℕ)). l ++ v.items ∷ []) so_far ∙ ap (λ (x : List ℕ). take disk all ++ x ∷ []) here
    ∙ sym (ap (λ (n : ℕ). take n all) next ∙ take-suc all disk [] (omega (arith, lt, many)))

-- the images may be left
pub left_leaves : (m : MemoryHost) (filling : Filling) (images : List (List ℕ)) → (0 < length m.held.items → IsSmall filling) → images ≡ left_of filling (story_of m) → Leaves (memory_seen m) images
left_leaves m filling images small is =
    let disks = (run (fresh_state (items_of m.first.items)) m.calls.items).disks in
    let many : length (map (left_on filling) disks) ≡ length disks = length-map disks (left_on filling) in
    let sizes : length (sizes_of disks) ≡ length disks = length-map disks (λ disk. length disk.content / 512) in
    record {
      one_each = ap length is ∙ many ∙ sym sizes;
      each = λ disk lt. subst (λ (c : List ℕ). Agrees (disk_at disks disk) c) (sym (ap (λ (l : List (List ℕ)). image l disk) is ∙ left_image filling disks disk))
          (left_agrees filling (disk_at disks disk) (small (omega (arith, lt, sizes, held_count m))) (held_now m disk));
    }
