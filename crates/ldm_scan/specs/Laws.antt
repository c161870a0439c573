-- The laws of a host, of a disk alone.
use Rattle.std.proofs.Common.{◌≡◌, ℕ, zero, suc, ◌/◌, ◌<◌, ◌≤◌, List, [], ◌∷◌, length, slice_index, refl, sym, ◌∙◌, ap, subst, arith}
use Rattle.ldm_bytes.specs.Numbers.{IsBytes}
use Rattle.ldm_host.specs.Seen.{Seen, Leaves, image}
use Rattle.ldm_scan.specs.LoneSeen.{IsLoneImage, IsHeldSince, lone_seen}

pub only_first : (number : ℕ) → number < 1 → number ≡ 0
only_first zero lt = refl
only_first (suc n) lt = absurd (omega arith)

pub lone_lengths : (disk : ℕ) (host : Seen) (number : ℕ) → number < 1 → length (image host.content disk) / 512 ≡ slice_index host.sizes disk
    → length (image (image host.content disk ∷ []) number) / 512 ≡ slice_index (slice_index host.sizes disk ∷ []) number
lone_lengths disk host zero lt is = is
lone_lengths disk host (suc n) lt is = absurd (omega arith)

pub lone_stays : (tells : Type 0) (disk : ℕ) (host : Seen) (number : ℕ) → tells → number < 1 → IsLoneImage tells host disk number (image (image host.content disk ∷ []) number)
lone_stays tells disk host zero told lt = (told, refl, refl)
lone_stays tells disk host (suc n) told lt = absurd (omega arith)

pub lone_length : (tells : Type 0) (disk : ℕ) (host : Seen) (number : ℕ) (c : List ℕ) → IsLoneImage tells host disk number c → length c ≡ length (image (image host.content disk ∷ []) number)
lone_length tells disk host zero c held = ap length held.2
lone_length tells disk host (suc n) c held = absurd (omega (arith, held.1))

module _ (tells : Type 0) (disk : ℕ) (host : Seen) (there : disk < length host.sizes)
    (may_stay : tells → (d : ℕ) → d < length host.sizes → host.may_leave d (image host.content d))
    (left_bytes : (d : ℕ) (c : List ℕ) → host.may_leave d c → IsBytes c) where
  pub lone_bytes : (number : ℕ) (c : List ℕ) → IsLoneImage tells host disk number c → IsBytes c
  lone_bytes number c held = subst IsBytes (sym held.2) (left_bytes disk (image host.content disk) (may_stay held.0 disk there))

  pub lone_all_bytes : (t : ℕ) (images : List (List ℕ)) (said : List ℕ) → IsHeldSince tells host disk t images said → (number : ℕ) → number < 1 → IsBytes (image images number)
  lone_all_bytes t images said since number lt =
      subst (λ (n : ℕ). IsBytes (image images n)) (sym (only_first number lt)) (lone_bytes 0 (image images 0) since.held)

-- ---- at one moment

module _ (tells : Type 0) (disk wrote faults : ℕ) (host : Seen)
    (counts : (t : ℕ) (images : List (List ℕ)) → t ≤ host.clock → Leaves host images → host.left_since t images host.said)
    (only : (images : List (List ℕ)) (said : List ℕ) → host.left_since host.clock images said → Leaves host images × (said ≡ host.said)) where
  pub lone_only : (images : List (List ℕ)) (said : List ℕ) → IsHeldSince tells host disk host.clock images said
      → Leaves (lone_seen tells disk wrote faults host) images × (said ≡ host.said)
  lone_only images said since = (
    record {
      one_each = since.one_image;
      each = λ number lt. subst (λ (n : ℕ). IsLoneImage tells host disk n (image images n)) (sym (only_first number lt)) since.held;
    },
    (only since.moment.0 said since.moment.1).1,
  )

  -- what the disk holds may be left, where the host tells its disks
  pub lone_counts : (tells → (d : ℕ) → d < length host.sizes → host.may_leave d (image host.content d)) → (tells → length host.content ≡ length host.sizes)
      → (t : ℕ) (images : List (List ℕ)) → t ≤ host.clock → Leaves (lone_seen tells disk wrote faults host) images → IsHeldSince tells host disk t images host.said
  lone_counts stays one_each t images le left =
      let held = left.each 0 (omega arith) in
      record {
        moment = (host.content, counts t host.content le (record { one_each = one_each held.0; each = stays held.0 }));
        one_image = left.one_each;
        held = held;
      }
