-- What one call more makes of what is seen of a host in memory: the bytes round a range that is written, what a stop may leave, and what each kind of call changes.
use Rattle.std.proofs.Common.{[], ◌≡◌, ◌⊎◌, inl, inr, ⊎_elim, ℕ, ◌+◌, ◌-◌, ◌<◌, ◌≤◌, List, length, drop, slice_index, slice_range, sym, ◌∙◌, ap, arith, rules, ◌∷◌, ◌++◌, refl, subst, ◌≢◌, zero, suc, ◌/◌, set, take, Vec}
use Rattle.std.proofs.lemmas.List.{map-set, places, get_or-take, get_or-drop, take-append-le, length_push, length-set, length-map, get_or-set_same, get_or-set_other, set-get_or, ext_get_or}
use Rattle.ldm_host.specs.Moves.{Torn, Begins, Grows, Later, TornAt, Still, Settled, Writes, Syncs}
use Rattle.ldm_bytes.specs.Numbers.{IsBytes}
use Rattle.ldm_bytes.specs.Places.{put}
use Rattle.ldm_bytes.proofs.PlaceLaws.{length-put}
use Rattle.ldm_bytes.proofs.ByteLaws.{put_before, put_in, put_behind, sides}
use Rattle.ldm_memory.specs.Story.{Disk, Agrees, Outside, written_disk, StoryState, MayLeave, LeftSince, Counts, sizes_of, after, run, state_at, seen_from, heard_in, disk_at, no_disk, synced_disk, contents}
use Rattle.ldm_host.proofs.Relations.{begins_trans, torn_itself, torn_at_itself, torn_from, begins_both, begins_itself}
use Rattle.ldm_memory.specs.declared.call.Call.{Call}
use Rattle.ldm_memory.specs.declared.call.Call.TheVariants.{Write, Sync, Say, Nothing}
use Rattle.ldm_memory.specs.StoryLaws.{all_calls, image_at, one_each, stays, counts_now, only_now}
use Rattle.std.proofs.lemmas.Bool.{cases_eq}
use Rattle.std.specs.declared.alloc.Global.{Global}
use Rattle.ldm_host.specs.Seen.{Seen, Leaves, image}
use Rattle.ldm_memory.specs.Ending.{TakesNothing}

-- ---- The bytes in and round a range that is written.

-- What may be left after a write, from what could be left before it: the content stood in the range.
pub unwritten : (disk : Disk) (at asked : ℕ) (bytes c : List ℕ) → length bytes ≤ asked → at + asked ≤ length disk.content → IsBytes disk.content → Agrees (written_disk disk at bytes asked) c
    → (b : List ℕ) × Agrees disk b × Torn at asked b c
unwritten disk at asked bytes c short fits small agrees = (b, before, torn)
  where
    middle : List ℕ
    middle = slice_range disk.content at (at + asked)

    middle_len : length middle ≡ asked
    middle_len = search (rules, places)

    whole : length (put disk.content at bytes) ≡ length disk.content
    whole = length-put disk.content at bytes (omega (arith, short, fits))

    size : length c ≡ length disk.content
    size = agrees.size ∙ whole

    b_fits : at + length middle ≤ length c
    b_fits = omega (arith, middle_len, size, fits)

    b : List ℕ
    b = put c at middle

    -- outside the range c is the content
    out : (k : ℕ) → Outside disk.pending k → (k < at) ⊎ (at + asked ≤ k) → slice_index c k ≡ slice_index disk.content k
    out k free side = agrees.outside k (side, free) ∙ ⊎_elim (λ lt. put_before disk.content bytes at (omega (arith, short, fits)) k lt) (λ ge. put_behind disk.content bytes at (omega (arith, short, fits)) k (omega (arith, ge, short))) side

    same : (k : ℕ) → (k < at) ⊎ (at + asked ≤ k) → slice_index b k ≡ slice_index c k
    same k side = ⊎_elim (λ lt. put_before c middle at b_fits k lt) (λ ge. put_behind c middle at b_fits k (omega (arith, ge, middle_len))) side

    of_middle : (k : ℕ) → at ≤ k → k < at + asked → slice_index middle (k - at) ≡ slice_index disk.content k
    of_middle k ge lt =
        let near : k - at < at + asked - at = omega arith in
        let back : at + (k - at) ≡ k = omega arith in
        get_or-take (at + asked - at) (drop at disk.content) (k - at) 0 near ∙ get_or-drop at disk.content (k - at) 0 ∙ ap (λ (j : ℕ). slice_index disk.content j) back

    inside : (k : ℕ) → at ≤ k → k < at + asked → slice_index b k ≡ slice_index disk.content k
    inside k ge lt = put_in c middle at b_fits k ge (omega (arith, lt, middle_len)) ∙ of_middle k ge lt

    at_k : (k : ℕ) → Outside disk.pending k → slice_index b k ≡ slice_index disk.content k
    at_k k free = ⊎_elim (λ lt. same k (inl lt) ∙ out k free (inl lt)) (λ rest. ⊎_elim (λ both. inside k both.0 both.1) (λ ge. same k (inr ge) ∙ out k free (inr ge)) rest) (sides k at asked)

    b_bytes : IsBytes b
    b_bytes k =
        elim (sides k at asked) [
          | inl lt ↦ omega (arith, same k (inl lt), agrees.bytes k)
          | inr rest ↦ elim rest [
            | inl both ↦ omega (arith, inside k both.0 both.1, small k)
            | inr ge ↦ omega (arith, same k (inr ge), agrees.bytes k)
          ]
        ]

    before : Agrees disk b
    before = record { size = length-put c at middle b_fits ∙ size; bytes = b_bytes; outside = at_k }

    torn : Torn at asked b c
    torn = record { size = sym (length-put c at middle b_fits); outside = λ k side. sym (same k side) }

pub torn_put : (old bytes : List ℕ) (at asked : ℕ) → length bytes ≤ asked → at + asked ≤ length old → Torn at asked old (put old at bytes)
torn_put old bytes at asked short fits = record {
  size = length-put old at bytes (omega (arith, short, fits));
  outside = λ k side. ⊎_elim (λ lt. put_before old bytes at (omega (arith, short, fits)) k lt) (λ ge. put_behind old bytes at (omega (arith, short, fits)) k (omega (arith, ge, short))) side;
}

-- What may be left after a write: anything in the range, round what could be left before it.
pub torn_agrees : (disk : Disk) (at asked : ℕ) (bytes before after : List ℕ) → length bytes ≤ asked → at + asked ≤ length disk.content → Agrees disk before → Torn at asked before after → IsBytes after → Agrees (written_disk disk at bytes asked) after
torn_agrees disk at asked bytes before after short fits agrees torn small = record {
  size = torn.size ∙ agrees.size ∙ sym whole.size;
  bytes = small;
  outside = λ k free. torn.outside k free.0 ∙ agrees.outside k free.1 ∙ sym (whole.outside k free.0);
}
  where
    whole : Torn at asked disk.content (put disk.content at bytes)
    whole = torn_put disk.content bytes at asked short fits

-- ---- One call more.

pub run_push : (first : StoryState) (calls : List Call) (call : Call) → run first (calls ++ call ∷ []) ≡ after (run first calls) call
run_push first [] call = refl
run_push first (c ∷ calls) call = run_push (after first c) calls call

pub said_after : (s : StoryState) (call : Call) → Begins s.said (after s call).said
said_after s (Say bytes) = (bytes.items, refl)
said_after s call = begins_itself s.said

-- what the counts may do
pub record CountsRise (old new : Counts) : Type 0 where
  pub disk_faults : old.disk_faults ≤ new.disk_faults
  pub talk_faults : old.talk_faults ≤ new.talk_faults
  pub failed : Grows old.failed new.failed

module _ (first : StoryState) (calls : List Call) (call : Call) where
  abbrev longer : List Call
  longer = calls ++ call ∷ []

  pub sooner : (k : ℕ) → k ≤ length calls → state_at first longer k ≡ state_at first calls k
  sooner k le = ap (λ (l : List Call). run first l) (take-append-le k calls (call ∷ []) le)

  one_longer : length longer ≡ length calls + 1
  one_longer = length_push calls call

  pub last : (k : ℕ) → length calls < k → state_at first longer k ≡ after (run first calls) call
  last k lt = all_calls first longer k (omega (arith, one_longer)) ∙ run_push first calls call

  before_last : state_at first longer (length calls) ≡ run first calls
  before_last = sooner (length calls) (omega arith) ∙ all_calls first calls (length calls) (omega arith)

  -- with one call more, no less was said by any time
  said_grows : (k : ℕ) → k ≤ length calls → Begins (state_at first calls (k + 1)).said (state_at first longer (k + 1)).said
  said_grows k le = ⊎_elim
      (λ less. subst (λ (s : StoryState). Begins (state_at first calls (k + 1)).said s.said) (sym (sooner (k + 1) less)) (begins_itself (state_at first calls (k + 1)).said))
      (λ more. subst (λ (s : StoryState). Begins s.said (state_at first longer (k + 1)).said) (sym (all_calls first calls (k + 1) (omega (arith, more))))
      (subst (λ (s : StoryState). Begins (run first calls).said s.said) (sym (last (k + 1) more)) (said_after (run first calls) call)))
      (cases (k + 1) (length calls))
    where
      cases : (a b : ℕ) → (a ≤ b) ⊎ (b < a)
      cases a b = grind arith

  keeps : (t : ℕ) (images : List (List ℕ)) (said : List ℕ) → LeftSince first calls t images said → LeftSince first longer t images said
  keeps t images said left = record {
    k = left.k;
    from = left.from;
    to = omega (arith, left.to, one_longer);
    may = subst (λ (s : StoryState). MayLeave s images) (sym (sooner left.k left.to)) left.may;
    said_before = subst (λ (s : StoryState). Begins s.said said) (sym (sooner left.k left.to)) left.said_before;
    said_after = begins_trans said (state_at first calls (left.k + 1)).said (state_at first longer (left.k + 1)).said left.said_after (said_grows left.k left.to);
  }

  adds : (t : ℕ) (images : List (List ℕ)) (said : List ℕ) → t ≤ length calls → LeftSince first longer (length calls) images said → LeftSince first longer t images said
  adds t images said le left = record { k = left.k; from = omega (arith, le, left.from); to = left.to; may = left.may; said_before = left.said_before; said_after = left.said_after }

  nothing_else : (t : ℕ) (images : List (List ℕ)) (said : List ℕ) → LeftSince first longer t images said → LeftSince first calls t images said ⊎ LeftSince first longer (length calls) images said
  nothing_else t images said left = ⊎_elim
      (λ less. inl (record {
        k = left.k;
        from = left.from;
        to = omega (arith, less);
        may = subst (λ (s : StoryState). MayLeave s images) (sooner left.k (omega (arith, less))) left.may;
        said_before = subst (λ (s : StoryState). Begins s.said said) (sooner left.k (omega (arith, less))) left.said_before;
        said_after = subst (λ (s : StoryState). Begins said s.said) (sooner (left.k + 1) less) left.said_after;
      }))
      (λ more. inr (record { k = left.k; from = omega (arith, more); to = left.to; may = left.may; said_before = left.said_before; said_after = left.said_after }))
      (cases (left.k + 1) (length calls))
    where
      cases : (a b : ℕ) → (a ≤ b) ⊎ (b < a)
      cases a b = grind arith

  -- the moments of the call: those at its start, with some of what it says, and what it leaves
  pub moments : (images : List (List ℕ)) (said : List ℕ) → LeftSince first longer (length calls) images said
      → (MayLeave (run first calls) images × Begins (run first calls).said said × Begins said (after (run first calls) call).said)
      ⊎ (MayLeave (after (run first calls) call) images × (said ≡ (after (run first calls) call).said))
  moments images said left = ⊎_elim
      (λ now. let here : state_at first longer left.k ≡ run first calls = ap (λ (k : ℕ). state_at first longer k) now ∙ before_last in inl (
        subst (λ (s : StoryState). MayLeave s images) here left.may,
        subst (λ (s : StoryState). Begins s.said said) here left.said_before,
        subst (λ (s : StoryState). Begins said s.said) (last (left.k + 1) (omega (arith, now))) left.said_after,
      ))
      (λ done. inr (
        subst (λ (s : StoryState). MayLeave s images) (last left.k done) left.may,
        begins_both (after (run first calls) call).said said (subst (λ (s : StoryState). Begins s.said said) (last left.k done) left.said_before) (subst (λ (s : StoryState). Begins said s.said) (last (left.k + 1) (omega (arith, done))) left.said_after),
      ))
      (cases left.k (length calls) left.from)
    where
      cases : (a b : ℕ) → b ≤ a → (a ≡ b) ⊎ (b < a)
      cases a b le = grind arith

  pub later : (script : List ℕ) (old new : Counts) → CountsRise old new → sizes_of (after (run first calls) call).disks ≡ sizes_of (run first calls).disks → Later (seen_from first calls script old) (seen_from first longer script new)
  later script old new rise sizes = record {
    sizes = ap (λ (s : StoryState). sizes_of s.disks) (run_push first calls call) ∙ sizes;
    disk_faults = rise.disk_faults;
    talk_faults = rise.talk_faults;
    failed = rise.failed;
    said = subst (λ (s : StoryState). Begins (run first calls).said s.said) (sym (run_push first calls call)) (said_after (run first calls) call);
    clock = omega (arith, one_longer);
    keeps = λ t images said le left. keeps t images said left;
    adds = adds;
    nothing_else = λ t images said le left. nothing_else t images said left;
  }

-- ---- What each call of a host in memory does.

-- a list of disks with one changed, of the same length
pub sizes_set : (disks : List Disk) (disk : ℕ) (d : Disk) → length d.content ≡ length (disk_at disks disk).content → sizes_of (set disks disk d) ≡ sizes_of disks
sizes_set [] disk d same = refl
sizes_set (e ∷ disks) zero d same = ap (λ (n : ℕ). n / 512 ∷ sizes_of disks) same
sizes_set (e ∷ disks) (suc disk) d same = ap (λ (l : List ℕ). length e.content / 512 ∷ l) (sizes_set disks disk d same)

pub contents_set : (disks : List Disk) (disk : ℕ) (d : Disk) → contents (set disks disk d) ≡ set (contents disks) disk d.content
contents_set disks disk d = map-set (λ disk. disk.content) disks disk d

disk_there : (disks : List Disk) (disk : ℕ) (d : Disk) → disk < length (sizes_of disks) → disk_at (set disks disk d) disk ≡ d
disk_there disks disk d lt = let there : disk < length disks = omega (arith, length-map disks (λ d. length d.content / 512), lt) in get_or-set_same disks disk d no_disk there

disk_other : (disks : List Disk) (disk other : ℕ) (d : Disk) → other ≢ disk → disk_at (set disks disk d) other ≡ disk_at disks other
disk_other disks disk other d ne = get_or-set_other disks disk other d no_disk ne

module _ (first : StoryState) (calls : List Call) (script : List ℕ) (old new : Counts) (rise : CountsRise old new) where
  abbrev now : StoryState
  now = run first calls

  abbrev before : Seen
  before = seen_from first calls script old

  -- a call that only counts
  later_counts : Later before (seen_from first calls script new)
  later_counts = record {
    sizes = refl;
    disk_faults = rise.disk_faults;
    talk_faults = rise.talk_faults;
    failed = rise.failed;
    said = begins_itself now.said;
    clock = omega arith;
    keeps = λ t images said le left. left;
    adds = λ t images said le left. let here = only_now first calls script old images said left in
        subst (λ (l : List ℕ). LeftSince first calls t images l) (sym here.1) (counts_now first calls script old t images le here.0);
    nothing_else = λ t images said le left. inl left;
  }

  pub still_counts : new.wrote ≡ old.wrote → Still before (seen_from first calls script new)
  still_counts wrote = record {
    later = later_counts;
    content = refl;
    wrote = wrote;
    left = λ disk c. (λ l. l, λ l. l);
    moments = λ images said left. let here = only_now first calls script old images said left in (
      here.0,
      subst (λ (l : List ℕ). Begins now.said l) (sym here.1) (begins_itself now.said),
      subst (λ (l : List ℕ). Begins l now.said) (sym here.1) (begins_itself now.said),
    );
  }

  -- a call that is kept and changes no disk
  pub still_push : (call : Call) → new.wrote ≡ old.wrote → (after now call).disks ≡ now.disks → Still before (seen_from first (calls ++ call ∷ []) script new)
  still_push call wrote same = record {
    later = later first calls call script old new rise (ap sizes_of same);
    content = ap contents disks_same;
    wrote = wrote;
    left = λ disk c. (
      subst (λ (d : List Disk). Agrees (disk_at d disk) c) disks_same,
      subst (λ (d : List Disk). Agrees (disk_at d disk) c) (sym disks_same),
    );
    moments = λ images said left. ⊎_elim
        (λ start. (record { one_each = start.0.one_each; each = start.0.each }, start.1, subst (λ (s : StoryState). Begins said s.said) (sym (run_push first calls call)) start.2))
        (λ done. (was images done.0, subst (λ (l : List ℕ). Begins now.said l) (sym done.1) (said_after now call), subst (λ (s : StoryState). Begins said s.said) (sym (run_push first calls call)) (subst (λ (l : List ℕ). Begins l (after now call).said) (sym done.1) (begins_itself (after now call).said))))
        (moments first calls call images said left);
  }
    where
      disks_same : (run first (calls ++ call ∷ [])).disks ≡ now.disks
      disks_same = ap (λ (s : StoryState). s.disks) (run_push first calls call) ∙ same

      was : (images : List (List ℕ)) → MayLeave (after now call) images → Leaves before images
      was images may = record {
        one_each = may.one_each ∙ ap (λ (d : List Disk). length (sizes_of d)) same;
        each = λ disk lt. subst (λ (d : List Disk). Agrees (disk_at d disk) (image images disk)) same (may.each disk (subst (λ (d : List Disk). disk < length (sizes_of d)) (sym same) lt));
      }

  module _ (disk at asked : ℕ) (bytes : Vec ℕ Global) (in_range : disk < length (sizes_of now.disks)) (short : length bytes.items ≤ asked) (fits : at + asked ≤ length (disk_at now.disks disk).content) (small : IsBytes (disk_at now.disks disk).content) where
    abbrev call : Call
    call = Write disk at bytes asked

    abbrev wrote_to : Disk
    wrote_to = written_disk (disk_at now.disks disk) at bytes.items asked

    abbrev later_seen : Seen
    later_seen = seen_from first (calls ++ call ∷ []) script new

    pushed : run first (calls ++ call ∷ []) ≡ after now call
    pushed = run_push first calls call

    disks_are : (run first (calls ++ call ∷ [])).disks ≡ set now.disks disk wrote_to
    disks_are = ap (λ (s : StoryState). s.disks) pushed

    whole : length wrote_to.content ≡ length (disk_at now.disks disk).content
    whole = length-put (disk_at now.disks disk).content at bytes.items (omega (arith, short, fits))

    pub put_content : (run first (calls ++ call ∷ [])).disks ≡ set now.disks disk wrote_to → contents (run first (calls ++ call ∷ [])).disks ≡ set (contents now.disks) disk (put (image (contents now.disks) disk) at bytes.items)
    put_content is = ap contents is ∙ contents_set now.disks disk wrote_to ∙ ap (λ (l : List ℕ). set (contents now.disks) disk (put l at bytes.items)) (sym (image_at now.disks disk))

    here : (c : List ℕ) → later_seen.may_leave disk c → (b : List ℕ) × before.may_leave disk b × Torn at asked b c
    here c left = unwritten (disk_at now.disks disk) at asked bytes.items c short fits small
        (subst (λ (d : Disk). Agrees d c) (ap (λ (l : List Disk). disk_at l disk) disks_are ∙ disk_there now.disks disk wrote_to in_range) left)

    other_is : (other : ℕ) → other ≢ disk → disk_at (run first (calls ++ call ∷ [])).disks other ≡ disk_at now.disks other
    other_is other ne = ap (λ (l : List Disk). disk_at l other) disks_are ∙ disk_other now.disks disk other wrote_to ne

    later_here : Later before later_seen
    later_here = later first calls call script old new rise (sizes_set now.disks disk wrote_to whole)

    content_torn : TornAt disk at asked before.content later_seen.content
    content_torn = subst (λ (l : List (List ℕ)). TornAt disk at asked (contents now.disks) l) (sym (put_content disks_are)) (record {
      count = length-set (contents now.disks) disk placed;
      here = subst (λ (l : List ℕ). Torn at asked (image (contents now.disks) disk) l) (sym (get_or-set_same (contents now.disks) disk placed [] there)) (torn_put (image (contents now.disks) disk) bytes.items at asked short fits_image);
      others = λ other ne. get_or-set_other (contents now.disks) disk other placed [] ne;
    })
      where
        placed : List ℕ
        placed = put (image (contents now.disks) disk) at bytes.items

        there : disk < length (contents now.disks)
        there = omega (arith, one_each now.disks, in_range)

        fits_image : at + asked ≤ length (image (contents now.disks) disk)
        fits_image = omega (arith, fits, ap length (image_at now.disks disk))

    pub pending_push : (was is : List ℕ) → before.may_leave disk was → Torn at asked was is → IsBytes is → later_seen.may_leave disk is
    pending_push was is left torn are =
        subst (λ (d : Disk). Agrees d is) (sym (ap (λ (l : List Disk). disk_at l disk) disks_are ∙ disk_there now.disks disk wrote_to in_range))
        (torn_agrees (disk_at now.disks disk) at asked bytes.items was is short fits left torn are)

    left_there : (images : List (List ℕ)) → MayLeave (after now call) images → Leaves later_seen images
    left_there images may = let there : MayLeave (run first (calls ++ call ∷ [])) images = subst (λ (s : StoryState). MayLeave s images) (sym pushed) may in record { one_each = there.one_each; each = there.each }

    pub writes_push : slice_index new.wrote disk ≤ slice_index old.wrote disk + asked → ((other : ℕ) → other ≢ disk → slice_index new.wrote other ≡ slice_index old.wrote other) → Writes disk at asked before later_seen
    writes_push wrote wrote_others = record {
      later = later_here;
      quiet = record { said = ap (λ (s : StoryState). s.said) pushed; heard = ap (λ (s : StoryState). heard_in s script) pushed; input = ap (λ (s : StoryState). drop s.heard script) pushed };
      content = content_torn;
      wrote = wrote;
      wrote_others = wrote_others;
      left = here;
      left_others = λ other c ne. (subst (λ (d : Disk). Agrees d c) (other_is other ne), subst (λ (d : Disk). Agrees d c) (sym (other_is other ne)));
      moments = λ images said left. ⊎_elim
          (λ start. (images, record { one_each = start.0.one_each; each = start.0.each }, torn_at_itself disk at asked images, begins_both now.said said start.1 start.2))
          (λ done. let from = torn_from disk at asked before later_seen in_range later_here.sizes here (λ other c ne. subst (λ (d : Disk). Agrees d c) (other_is other ne)) images (left_there images done.0) in (from.0, from.1, from.2, done.1))
          (moments first calls call images said left);
    }

  -- a write that only counts
  pub writes_counts : (disk at n : ℕ) → slice_index new.wrote disk ≤ slice_index old.wrote disk + n → ((other : ℕ) → other ≢ disk → slice_index new.wrote other ≡ slice_index old.wrote other) → Writes disk at n before (seen_from first calls script new)
  writes_counts disk at n wrote wrote_others = record {
    later = later_counts;
    quiet = record { said = refl; heard = refl; input = refl };
    content = torn_at_itself disk at n (contents now.disks);
    wrote = wrote;
    wrote_others = wrote_others;
    left = λ c left. (c, left, torn_itself at n c);
    left_others = λ other c ne. (λ l. l, λ l. l);
    moments = λ images said left. let here = only_now first calls script old images said left in (images, here.0, torn_at_itself disk at n images, here.1);
  }

  -- a write that is kept and takes nothing
  pub writes_nothing : (disk at n : ℕ) → slice_index new.wrote disk ≤ slice_index old.wrote disk + n → ((other : ℕ) → other ≢ disk → slice_index new.wrote other ≡ slice_index old.wrote other) → Writes disk at n before (seen_from first (calls ++ Nothing ∷ []) script new)
  writes_nothing disk at n wrote wrote_others = record {
    later = later first calls Nothing script old new rise refl;
    quiet = record { said = ap (λ (s : StoryState). s.said) same; heard = ap (λ (s : StoryState). heard_in s script) same; input = ap (λ (s : StoryState). drop s.heard script) same };
    content = subst (λ (s : StoryState). TornAt disk at n (contents now.disks) (contents s.disks)) (sym same) (torn_at_itself disk at n (contents now.disks));
    wrote = wrote;
    wrote_others = wrote_others;
    left = λ c left. (c, subst (λ (s : StoryState). Agrees (disk_at s.disks disk) c) same left, torn_itself at n c);
    left_others = λ other c ne. (subst (λ (s : StoryState). Agrees (disk_at s.disks other) c) same, subst (λ (s : StoryState). Agrees (disk_at s.disks other) c) (sym same));
    moments = λ images said left. ⊎_elim
        (λ start. (images, record { one_each = start.0.one_each; each = start.0.each }, torn_at_itself disk at n images, begins_both now.said said start.1 start.2))
        (λ done. (images, record { one_each = done.0.one_each; each = done.0.each }, torn_at_itself disk at n images, done.1))
        (moments first calls Nothing images said left);
  }
    where
      same : run first (calls ++ Nothing ∷ []) ≡ now
      same = run_push first calls Nothing

  -- a call that is kept and takes nothing
  pub nothing_push : TakesNothing before (seen_from first (calls ++ Nothing ∷ []) script new)
  nothing_push = record {
    content = ap (λ (s : StoryState). contents s.disks) same;
    left = λ disk c. (subst (λ (s : StoryState). Agrees (disk_at s.disks disk) c) same, subst (λ (s : StoryState). Agrees (disk_at s.disks disk) c) (sym same));
    quiet = record { said = ap (λ (s : StoryState). s.said) same; heard = ap (λ (s : StoryState). heard_in s script) same; input = ap (λ (s : StoryState). drop s.heard script) same };
  }
    where
      same : run first (calls ++ Nothing ∷ []) ≡ now
      same = run_push first calls Nothing

  -- a sync that only counts
  pub syncs_counts : (disk : ℕ) → new.wrote ≡ old.wrote → Syncs disk before (seen_from first calls script new)
  syncs_counts disk wrote = record {
    later = later_counts;
    quiet = record { said = refl; heard = refl; input = refl };
    content = refl;
    wrote = wrote;
    left = λ c left. left;
    left_others = λ other c ne. (λ l. l, λ l. l);
    moments = λ images said left. only_now first calls script old images said left;
  }

  module _ (disk : ℕ) (in_range : disk < length (sizes_of now.disks)) (wrote : new.wrote ≡ old.wrote) where
    abbrev sync_seen : Seen
    sync_seen = seen_from first (calls ++ Sync disk ∷ []) script new

    sync_pushed : run first (calls ++ Sync disk ∷ []) ≡ after now (Sync disk)
    sync_pushed = run_push first calls (Sync disk)

    sync_disks : (run first (calls ++ Sync disk ∷ [])).disks ≡ set now.disks disk (synced_disk (disk_at now.disks disk))
    sync_disks = ap (λ (s : StoryState). s.disks) sync_pushed

    sync_here : disk_at (run first (calls ++ Sync disk ∷ [])).disks disk ≡ synced_disk (disk_at now.disks disk)
    sync_here = ap (λ (l : List Disk). disk_at l disk) sync_disks ∙ disk_there now.disks disk (synced_disk (disk_at now.disks disk)) in_range

    sync_other : (other : ℕ) → other ≢ disk → disk_at (run first (calls ++ Sync disk ∷ [])).disks other ≡ disk_at now.disks other
    sync_other other ne = ap (λ (l : List Disk). disk_at l other) sync_disks ∙ disk_other now.disks disk other (synced_disk (disk_at now.disks disk)) ne

    -- what may be left of a disk that was synced is its content
    only_content : (d : Disk) (c : List ℕ) → Agrees (synced_disk d) c → c ≡ d.content
    only_content d c agrees = ext_get_or 0 c d.content agrees.size (λ k lt. agrees.outside k tt)

    sync_content : contents (run first (calls ++ Sync disk ∷ [])).disks ≡ contents now.disks
    sync_content = ap contents sync_disks ∙ contents_set now.disks disk (synced_disk (disk_at now.disks disk)) ∙ ap (λ (l : List ℕ). set (contents now.disks) disk l) (sym (image_at now.disks disk)) ∙ set-get_or (contents now.disks) disk []

    sync_left : (c : List ℕ) → sync_seen.may_leave disk c → before.may_leave disk c
    sync_left c left =
        let is = only_content (disk_at now.disks disk) c (subst (λ (d : Disk). Agrees d c) sync_here left) in
        subst (λ (l : List ℕ). Agrees (disk_at now.disks disk) l) (sym is) (stays (disk_at now.disks disk) (subst IsBytes is left.bytes))

    pub settled : Settled sync_seen disk
    settled c left = only_content (disk_at now.disks disk) c (subst (λ (d : Disk). Agrees d c) sync_here left) ∙ sym (ap (λ (l : List (List ℕ)). image l disk) sync_content ∙ image_at now.disks disk)

    pub syncs_push : Syncs disk before sync_seen
    syncs_push = record {
      later = later first calls (Sync disk) script old new rise (sizes_set now.disks disk (synced_disk (disk_at now.disks disk)) refl);
      quiet = record { said = ap (λ (s : StoryState). s.said) sync_pushed; heard = ap (λ (s : StoryState). heard_in s script) sync_pushed; input = ap (λ (s : StoryState). drop s.heard script) sync_pushed };
      content = sync_content;
      wrote = wrote;
      left = sync_left;
      left_others = λ other c ne. (subst (λ (d : Disk). Agrees d c) (sync_other other ne), subst (λ (d : Disk). Agrees d c) (sym (sync_other other ne)));
      moments = λ images said left. ⊎_elim
          (λ start. (record { one_each = start.0.one_each; each = start.0.each }, begins_both now.said said start.1 start.2))
          (λ done. (was images done.0, done.1))
          (moments first calls (Sync disk) images said left);
    }
      where
        sizes_same : sizes_of (set now.disks disk (synced_disk (disk_at now.disks disk))) ≡ sizes_of now.disks
        sizes_same = sizes_set now.disks disk (synced_disk (disk_at now.disks disk)) refl

        was : (images : List (List ℕ)) → MayLeave (after now (Sync disk)) images → Leaves before images
        was images may = record { one_each = there.one_each ∙ ap length longer_sizes; each = each }
          where
            there : MayLeave (run first (calls ++ Sync disk ∷ [])) images
            there = subst (λ (s : StoryState). MayLeave s images) (sym sync_pushed) may

            longer_sizes : sizes_of (run first (calls ++ Sync disk ∷ [])).disks ≡ sizes_of now.disks
            longer_sizes = ap sizes_of sync_disks ∙ sizes_same

            at : (other : ℕ) → other < length (sizes_of now.disks) → Agrees (disk_at (run first (calls ++ Sync disk ∷ [])).disks other) (image images other)
            at other lt = there.each other (subst (λ (l : List ℕ). other < length l) (sym longer_sizes) lt)

            each : (other : ℕ) → other < length (sizes_of now.disks) → Agrees (disk_at now.disks other) (image images other)
            each other lt = elim (cases_eq other disk) [
              | inl is ↦ subst (λ (o : ℕ). Agrees (disk_at now.disks o) (image images o)) (sym is) (sync_left (image images disk) (at disk in_range))
              | inr ne ↦ subst (λ (d : Disk). Agrees d (image images other)) (sync_other other ne) (at other lt)
            ]
