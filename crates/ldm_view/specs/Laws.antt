-- The laws of a host, of a view.
use Rattle.std.proofs.Common.{◌≡◌, ℕ, zero, suc, ◌/◌, ◌<◌, ◌≤◌, List, [], length, slice_index, slice_get, Some, refl, sym, ◌∙◌, ap, subst}
use Rattle.std.proofs.Math.Nat.{zero-lt-suc, not-suc-le-zero}
use Rattle.ldm_bytes.specs.Numbers.{IsBytes}
use Rattle.ldm_host.specs.Seen.{Seen, Leaves, image}
use Rattle.ldm_view.specs.declared.patch.Patch.{Patch}
use Rattle.ldm_view.specs.Patches.{shown, IsOnDisk}
use Rattle.ldm_view.specs.ViewSeen.{IsShown, IsShownSince, view_seen}
use Rattle.ldm_view.specs.PatchLaws.{length-shown, image_shown, length-patched, patched_bytes}

pub view_one_each : (patches : List Patch) (host : Seen) → length host.content ≡ length host.sizes → length (shown patches host.content) ≡ length host.sizes
view_one_each patches host one_each = length-shown patches host.content ∙ one_each

pub view_lengths : (patches : List Patch) (host : Seen) (disk : ℕ) → length host.content ≡ length host.sizes → disk < length host.sizes
    → length (image host.content disk) / 512 ≡ slice_index host.sizes disk → length (image (shown patches host.content) disk) / 512 ≡ slice_index host.sizes disk
view_lengths patches host disk one_each lt is =
    ap (λ (l : List ℕ). length l / 512) (image_shown patches disk host.content (subst (λ (n : ℕ). disk < n) (sym one_each) lt))
    ∙ ap (λ (n : ℕ). n / 512) (length-patched patches disk (image host.content disk)) ∙ is

module _ (tells : Type 0) (patches : List Patch) (host : Seen)
    (lie : (k : ℕ) (p : Patch) → slice_get patches k ≡ Some p → IsOnDisk host.sizes p)
    (one_each : tells → length host.content ≡ length host.sizes)
    (may_stay : tells → (disk : ℕ) → disk < length host.sizes → host.may_leave disk (image host.content disk))
    (left_bytes : (disk : ℕ) (c : List ℕ) → host.may_leave disk c → IsBytes c) where
  pub view_bytes : (disk : ℕ) (c : List ℕ) → IsShown tells patches host disk c → IsBytes c
  view_bytes disk c left =
      let there : disk < length host.content = subst (λ (n : ℕ). disk < n) (sym (one_each left.0)) left.1 in
      subst IsBytes (sym (left.2 ∙ image_shown patches disk host.content there))
      (patched_bytes patches disk (image host.content disk) (λ k p at. (lie k p at).bytes) (left_bytes disk (image host.content disk) (may_stay left.0 disk left.1)))

  pub view_all_bytes : (t : ℕ) (images : List (List ℕ)) (said : List ℕ) → IsShownSince tells patches host t images said → (disk : ℕ) → disk < length host.sizes → IsBytes (image images disk)
  view_all_bytes t images said since disk lt = view_bytes disk (image images disk) (since.each disk lt)

-- ---- at one moment

module _ (tells : Type 0) (patches : List Patch) (wrote : List ℕ) (refused : ℕ) (host : Seen)
    (counts : (t : ℕ) (images : List (List ℕ)) → t ≤ host.clock → Leaves host images → host.left_since t images host.said)
    (only : (images : List (List ℕ)) (said : List ℕ) → host.left_since host.clock images said → Leaves host images × (said ≡ host.said)) where
  pub view_only : (images : List (List ℕ)) (said : List ℕ) → IsShownSince tells patches host host.clock images said
      → Leaves (view_seen tells patches wrote refused host) images × (said ≡ host.said)
  view_only images said since = (record { one_each = since.one_each; each = since.each }, (only since.moment.0 said since.moment.1).1)

  -- what is shown may be left, where the host tells its disks
  pub view_counts : (tells → (disk : ℕ) → disk < length host.sizes → host.may_leave disk (image host.content disk)) → (tells → length host.content ≡ length host.sizes)
      → (t : ℕ) (images : List (List ℕ)) → t ≤ host.clock → Leaves (view_seen tells patches wrote refused host) images → IsShownSince tells patches host t images host.said
  view_counts stays one_each t images le left = record { moment = moment; one_each = left.one_each; each = left.each }
    where
      by_size : (n : ℕ) → n ≡ length host.sizes → (now : List (List ℕ)) × Leaves host now
      by_size zero none = ([], record { one_each = none; each = λ disk lt. absurd (not-suc-le-zero (subst (λ (n : ℕ). disk < n) (sym none) lt)) })
      by_size (suc n) some =
          let told : tells = (left.each 0 (subst (λ (m : ℕ). 0 < m) some (zero-lt-suc n))).0 in
          (host.content, record { one_each = one_each told; each = stays told })

      moment : (now : List (List ℕ)) × host.left_since t now host.said
      moment = let now = by_size (length host.sizes) refl in (now.0, counts t now.0 le now.1)
