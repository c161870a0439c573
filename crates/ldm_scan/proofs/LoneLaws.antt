-- What a disk alone shows of the moves of its host.
use Rattle.std.proofs.Common.{[], ◌≡◌, inl, inr, ⊎_elim, ℕ, zero, suc, ◌+◌, ◌-◌, ◌^◌, ◌<◌, ◌≤◌, min, List, ◌∷◌, ◌++◌, length, get_or, set, slice_index, map, refl, sym, ◌∙◌, ap, subst, arith}
use Rattle.std.proofs.lemmas.List.{get_or-set_other}
use Rattle.ldm_bytes.specs.Places.{put}
use Rattle.ldm_host.specs.Seen.{Seen, Leaves, image}
use Rattle.ldm_host.specs.Moves.{Rose, Later, Still, Looks, Writes, Syncs, Grows}
use Rattle.ldm_host.specs.declared.host.DiskRange.{DiskRange}
use Rattle.ldm_host.proofs.Relations.{begins_itself, grows_itself, torn_itself, torn_at_itself, still_trans}
use Rattle.ldm_scan.specs.LoneSeen.{IsLoneImage, IsHeldSince, as_first, lone_seen}
use Rattle.ldm_scan.specs.Laws.{lone_only}
use Rattle.std.proofs.Math.Logic.{∥∥₁_map}

-- a disk that is as it was
module _ (tells : Type 0) (disk : ℕ) (a b : Seen) (content : b.content ≡ a.content) where
  pub held_same : (number : ℕ) (c : List ℕ) → IsLoneImage tells b disk number c → IsLoneImage tells a disk number c
  held_same number c held = (held.0, held.1, held.2 ∙ ap (λ (l : List (List ℕ)). image l disk) content)

  pub held_back : (number : ℕ) (c : List ℕ) → IsLoneImage tells a disk number c → IsLoneImage tells b disk number c
  held_back number c held = (held.0, held.1, held.2 ∙ ap (λ (l : List (List ℕ)). image l disk) (sym content))

  pub since_same : (t u : ℕ) (images : List (List ℕ)) (said : List ℕ) → ((left : List (List ℕ)) × a.left_since u left said)
      → IsHeldSince tells b disk t images said → IsHeldSince tells a disk u images said
  since_same t u images said moment since = record { moment = moment; one_image = since.one_image; held = held_same 0 (image images 0) since.held }

  pub since_back : (t u : ℕ) (images : List (List ℕ)) (said : List ℕ) → ((left : List (List ℕ)) × b.left_since u left said)
      → IsHeldSince tells a disk t images said → IsHeldSince tells b disk u images said
  since_back t u images said moment since = record { moment = moment; one_image = since.one_image; held = held_back 0 (image images 0) since.held }

grows_first : (old new : List DiskRange) → Grows old new → Grows (map as_first old) (map as_first new)
grows_first old new grows = (map as_first grows.0, ap (map as_first) grows.1 ∙ map_both old grows.0)
  where
    map_both : (xs ys : List DiskRange) → map as_first (xs ++ ys) ≡ map as_first xs ++ map as_first ys
    map_both [] ys = refl
    map_both (x ∷ xs) ys = ap (λ (l : List DiskRange). as_first x ∷ l) (map_both xs ys)

-- a call of the host that looks
pub lone_later : (tells : Type 0) (disk wrote before after : ℕ) (a b : Seen) → before ≤ after → Still a b
    → Later (lone_seen tells disk wrote before a) (lone_seen tells disk wrote after b)
lone_later tells disk wrote before after a b le still = record {
  sizes = ap (λ (l : List ℕ). slice_index l disk ∷ []) still.later.sizes;
  disk_faults = le;
  talk_faults = still.later.talk_faults;
  failed = grows_first a.failed b.failed still.later.failed;
  said = still.later.said;
  clock = still.later.clock;
  keeps = λ t images said le since. since_back tells disk a b still.content t t images said (since.moment.0, still.later.keeps t since.moment.0 said le since.moment.1) since;
  adds = λ t images said le since. record {
    moment = (since.moment.0, still.later.adds t since.moment.0 said le since.moment.1);
    one_image = since.one_image;
    held = since.held;
  };
  nothing_else = λ t images said le since. ⊎_elim
      (λ sooner. inl (since_same tells disk a b still.content t t images said (since.moment.0, sooner) since))
      (λ later. inr (record { moment = (since.moment.0, later); one_image = since.one_image; held = since.held }))
      (still.later.nothing_else t since.moment.0 said le since.moment.1);
}

pub lone_still : (tells : Type 0) (disk wrote before after : ℕ) (a b : Seen) → before ≤ after → Still a b
    → Still (lone_seen tells disk wrote before a) (lone_seen tells disk wrote after b)
lone_still tells disk wrote before after a b le still = record {
  later = lone_later tells disk wrote before after a b le still;
  content = ap (λ (l : List (List ℕ)). image l disk ∷ []) still.content;
  wrote = refl;
  left = λ number c. (held_same tells disk a b still.content number c, held_back tells disk a b still.content number c);
  moments = λ images said since.
      let moment = still.moments since.moment.0 said since.moment.1 in (
        record { one_each = since.one_image; each = λ number lt. one_held number lt images (held_same tells disk a b still.content 0 (image images 0) since.held) },
        moment.1,
        moment.2,
      );
}
  where
    one_held : (number : ℕ) → number < 1 → (images : List (List ℕ)) → IsLoneImage tells a disk 0 (image images 0) → IsLoneImage tells a disk number (image images number)
    one_held zero lt images held = held
    one_held (suc n) lt images held = absurd (omega arith)

pub lone_looks : (tells : Type 0) (disk wrote before after : ℕ) (a b : Seen) (P Q : Type 0) → before ≤ after → (Q → Rose before after) → Looks a b P
    → Looks (lone_seen tells disk wrote before a) (lone_seen tells disk wrote after b) Q
lone_looks tells disk wrote before after a b P Q le rose looks = record {
  still = lone_still tells disk wrote before after a b le looks.still;
  quiet = record { said = looks.quiet.said; heard = looks.quiet.heard; input = looks.quiet.input };
  cause = rose;
}

-- ---- calls that write

module _ (tells : Type 0) (disk wrote next before after : ℕ) (a : Seen) (rose : before ≤ after)
    (only : (images : List (List ℕ)) (said : List ℕ) → a.left_since a.clock images said → Leaves a images × (said ≡ a.said))
    (counts : (t : ℕ) (images : List (List ℕ)) → t ≤ a.clock → Leaves a images → a.left_since t images a.said) where
  pub refused_later : Later (lone_seen tells disk wrote before a) (lone_seen tells disk next after a)
  refused_later = record {
    sizes = refl;
    disk_faults = rose;
    talk_faults = omega arith;
    failed = grows_itself (map as_first a.failed);
    said = begins_itself a.said;
    clock = omega arith;
    keeps = λ t images said le since. since;
    adds = λ t images said le since. record { moment = adds t images said le since; one_image = since.one_image; held = since.held };
    nothing_else = λ t images said le since. inl since;
  }
    where
      adds : (t : ℕ) (images : List (List ℕ)) (said : List ℕ) → t ≤ a.clock → IsHeldSince tells a disk a.clock images said → (left : List (List ℕ)) × a.left_since t left said
      adds t images said le since =
          let now = only since.moment.0 said since.moment.1 in
          (since.moment.0, subst (λ (l : List ℕ). a.left_since t since.moment.0 l) (sym now.1) (counts t since.moment.0 le now.0))

  -- bytes that the disk alone was handed
  pub refused_writes : (number at n : ℕ) → number < 1 → next ≤ wrote + n → Writes number at n (lone_seen tells disk wrote before a) (lone_seen tells disk next after a)
  refused_writes number at n lt le = record {
    later = refused_later;
    quiet = record { said = refl; heard = refl; input = refl };
    content = torn_at_itself number at n (image a.content disk ∷ []);
    wrote = here number lt;
    wrote_others = λ other ne. others number other lt ne;
    left = λ c left. (c, left, torn_itself at n c);
    left_others = λ other c ne. (λ left. left, λ left. left);
    moments = λ images said since.
        let now = lone_only tells disk wrote before a counts only images said since in
        (images, now.0, torn_at_itself number at n images, now.1);
  }
    where
      here : (number : ℕ) → number < 1 → slice_index (next ∷ []) number ≤ slice_index (wrote ∷ []) number + n
      here zero lt = le
      here (suc k) lt = absurd (omega arith)

      others : (number other : ℕ) → number < 1 → (other ≡ number → ⊥) → slice_index (next ∷ []) other ≡ slice_index (wrote ∷ []) other
      others zero zero lt ne = absurd (ne refl)
      others zero (suc k) lt ne = refl
      others (suc n) other lt ne = absurd (omega arith)

-- a sync, for which there is nothing to do
pub lone_syncs : (tells : Type 0) (disk wrote faults number : ℕ) (a : Seen)
    → ((images : List (List ℕ)) (said : List ℕ) → a.left_since a.clock images said → Leaves a images × (said ≡ a.said))
    → ((t : ℕ) (images : List (List ℕ)) → t ≤ a.clock → Leaves a images → a.left_since t images a.said)
    → Syncs number (lone_seen tells disk wrote faults a) (lone_seen tells disk wrote faults a)
lone_syncs tells disk wrote faults number a only counts = record {
  later = refused_later tells disk wrote wrote faults faults a (omega arith) only counts;
  quiet = record { said = refl; heard = refl; input = refl };
  content = refl;
  wrote = refl;
  left = λ c left. left;
  left_others = λ other c ne. (λ left. left, λ left. left);
  moments = λ images said since. lone_only tells disk wrote faults a counts only images said since;
}

pub still_carries : (start a b : Seen) → ∥ Still start a ∥₁ → Still a b → ∥ Still start b ∥₁
still_carries start a b was still = ∥∥₁_map was (λ (s : Still start a). still_trans start a b s still)
