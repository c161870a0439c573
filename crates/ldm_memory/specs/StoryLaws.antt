-- The laws of a host hold of every story.
use Rattle.std.proofs.Common.{◌≡◌, ⊎_elim, ℕ, zero, suc, ◌+◌, ◌/◌, ◌<◌, ◌≤◌, List, [], ◌∷◌, length, slice_index, refl, sym, ◌∙◌, ap, subst}
use Rattle.std.proofs.Math.Nat.{le_refl, le-add_right, le_trans, zero-lt-suc}
use Rattle.std.proofs.lemmas.Bool.{cases_lt}
use Rattle.std.proofs.lemmas.List.{length-map, take_all, get_or_past}
use Rattle.ldm_bytes.specs.Numbers.{IsBytes}
use Rattle.ldm_host.specs.Seen.{Leaves, image}
use Rattle.ldm_host.specs.Moves.{Begins}
use Rattle.ldm_host.proofs.Relations.{begins_itself, begins_both}
use Rattle.ldm_memory.specs.declared.call.Call.{Call}
use Rattle.ldm_memory.specs.Story.{Disk, StoryState, Agrees, MayLeave, LeftSince, Counts, disk_at, sizes_of, contents, run, state_at, seen_from}

pub image_at : (disks : List Disk) (disk : ℕ) → image (contents disks) disk ≡ (disk_at disks disk).content
image_at [] disk = refl
image_at (d ∷ disks) zero = refl
image_at (d ∷ disks) (suc disk) = image_at disks disk

pub size_at : (disks : List Disk) (disk : ℕ) → length (image (contents disks) disk) / 512 ≡ slice_index (sizes_of disks) disk
size_at [] disk = refl
size_at (d ∷ disks) zero = refl
size_at (d ∷ disks) (suc disk) = size_at disks disk

pub one_each : (disks : List Disk) → length (contents disks) ≡ length (sizes_of disks)
one_each disks = length-map disks (λ disk. disk.content) ∙ sym (length-map disks (λ disk. length disk.content / 512))

pub stays : (disk : Disk) → IsBytes disk.content → Agrees disk disk.content
stays disk bytes = record { size = refl; bytes = bytes; outside = λ k out. refl }

-- all calls, and more than all
pub all_calls : (first : StoryState) (calls : List Call) (k : ℕ) → length calls ≤ k → state_at first calls k ≡ run first calls
all_calls first calls k le = ap (λ (l : List Call). run first l) (take_all k calls le)

pub counts_now : (first : StoryState) (calls : List Call) (script : List ℕ) (counts : Counts) (t : ℕ) (images : List (List ℕ)) → t ≤ length calls
    → Leaves (seen_from first calls script counts) images → LeftSince first calls t images (run first calls).said
counts_now first calls script counts t images le left = record {
  k = length calls;
  from = le;
  to = le_refl (length calls);
  may = subst (λ (s : StoryState). MayLeave s images) (sym here) (record { one_each = left.one_each; each = left.each });
  said_before = subst (λ (s : StoryState). Begins s.said (run first calls).said) (sym here) (begins_itself (run first calls).said);
  said_after = subst (λ (s : StoryState). Begins (run first calls).said s.said) (sym next) (begins_itself (run first calls).said);
}
  where
    here : state_at first calls (length calls) ≡ run first calls
    here = all_calls first calls (length calls) (le_refl (length calls))

    next : state_at first calls (length calls + 1) ≡ run first calls
    next = all_calls first calls (length calls + 1) (le-add_right (length calls) 1)

pub only_now : (first : StoryState) (calls : List Call) (script : List ℕ) (counts : Counts) (images : List (List ℕ)) (said : List ℕ)
    → LeftSince first calls (length calls) images said → Leaves (seen_from first calls script counts) images × (said ≡ (run first calls).said)
only_now first calls script counts images said left = (
  record { one_each = may.one_each; each = may.each },
  begins_both (run first calls).said said (subst (λ (s : StoryState). Begins s.said said) here left.said_before) (subst (λ (s : StoryState). Begins said s.said) next left.said_after),
)
  where
    here : state_at first calls left.k ≡ run first calls
    here = all_calls first calls left.k left.from

    next : state_at first calls (left.k + 1) ≡ run first calls
    next = all_calls first calls (left.k + 1) (le_trans left.from (le-add_right left.k 1))

    may : MayLeave (run first calls) images
    may = subst (λ (s : StoryState). MayLeave s images) here left.may

-- images that are left at some moment are bytes
pub bytes_since : (first : StoryState) (calls : List Call) (t : ℕ) (images : List (List ℕ)) (said : List ℕ) → LeftSince first calls t images said → (disk : ℕ) → IsBytes (image images disk)
bytes_since first calls t images said left disk =
    ⊎_elim
    (λ lt. (left.may.each disk (subst (λ (n : ℕ). disk < n) left.may.one_each lt)).bytes)
    (λ past. subst IsBytes (sym (get_or_past images disk [] past)) (λ k. subst (λ (n : ℕ). n < 256) (sym (none k)) (zero-lt-suc 255)))
    (cases_lt disk (length images))
  where
    none : (k : ℕ) → slice_index [] k ≡ 0
    none k = refl
