-- What stays of images with patches: lengths, that they are bytes, and one image for each.
use Rattle.std.proofs.Common.{◌≡◌, ℕ, zero, suc, ◌+◌, ◌<◌, nat_le, ◌==◌, List, [], ◌∷◌, length, slice_get, Some, Bool, true, false, if◌then◌else◌, refl, sym, ◌∙◌, ap}
use Rattle.std.proofs.Math.Nat.{add-zero, add-suc, suc-add, zero-add, not-suc-le-zero, le_of_suc-le-suc}
use Rattle.std.proofs.lemmas.Bool.{leb-true}
use Rattle.ldm_bytes.specs.Numbers.{IsBytes}
use Rattle.ldm_bytes.specs.Places.{put}
use Rattle.ldm_bytes.proofs.PlaceLaws.{length-put}
use Rattle.ldm_bytes.proofs.ByteLaws.{bytes_put}
use Rattle.ldm_host.specs.Seen.{image}
use Rattle.ldm_view.specs.declared.patch.Patch.{Patch}
use Rattle.ldm_view.specs.Patches.{laid, with_patch, patched, patched_from, shown}

either : (b : Bool) (P : List ℕ → Type 0) (new old : List ℕ) → (b ≡ true → P new) → P old → P (if b then new else old)
either true P new old laid_on other = laid_on refl
either false P new old laid_on other = other

pub length-laid : (old : List ℕ) (at : ℕ) (bytes : List ℕ) → length (laid old at bytes) ≡ length old
unfolding laid
length-laid old at bytes =
    either (nat_le (at + length bytes) (length old)) (λ (l : List ℕ). length l ≡ length old) (put old at bytes) old
    (λ fits. length-put old at bytes (leb-true (at + length bytes) (length old) fits)) refl

pub laid_bytes : (old : List ℕ) (at : ℕ) (bytes : List ℕ) → IsBytes old → IsBytes bytes → IsBytes (laid old at bytes)
unfolding laid
laid_bytes old at bytes was are =
    either (nat_le (at + length bytes) (length old)) IsBytes (put old at bytes) old
    (λ fits. bytes_put old bytes at (leb-true (at + length bytes) (length old) fits) was are) was

length-with : (disk : ℕ) (p : Patch) (bytes : List ℕ) → length (with_patch disk p bytes) ≡ length bytes
length-with disk p bytes =
    either (p.disk == disk) (λ (l : List ℕ). length l ≡ length bytes) (laid bytes p.at p.bytes.items) bytes (λ is. length-laid bytes p.at p.bytes.items) refl

pub length-patched : (patches : List Patch) (disk : ℕ) (bytes : List ℕ) → length (patched patches disk bytes) ≡ length bytes
unfolding patched
length-patched [] disk bytes = refl
length-patched (p ∷ more) disk bytes = length-patched more disk (with_patch disk p bytes) ∙ length-with disk p bytes

pub patched_bytes : (patches : List Patch) (disk : ℕ) (bytes : List ℕ) → ((k : ℕ) (p : Patch) → slice_get patches k ≡ Some p → IsBytes p.bytes.items)
    → IsBytes bytes → IsBytes (patched patches disk bytes)
unfolding patched
patched_bytes [] disk bytes all was = was
patched_bytes (p ∷ more) disk bytes all was = patched_bytes more disk (with_patch disk p bytes) (λ k q at. all (suc k) q at)
    (either (p.disk == disk) IsBytes (laid bytes p.at p.bytes.items) bytes (λ is. laid_bytes bytes p.at p.bytes.items was (all zero p refl)) was)

length-from : (patches : List Patch) (disk : ℕ) (images : List (List ℕ)) → length (patched_from patches disk images) ≡ length images
unfolding patched_from
length-from patches disk [] = refl
length-from patches disk (bytes ∷ images) = ap suc (length-from patches (suc disk) images)

image_from : (patches : List Patch) (disk k : ℕ) (images : List (List ℕ)) → k < length images
    → image (patched_from patches disk images) k ≡ patched patches (disk + k) (image images k)
unfolding patched_from
image_from patches disk k [] lt = absurd (not-suc-le-zero lt)
image_from patches disk zero (bytes ∷ images) lt = ap (λ (n : ℕ). patched patches n bytes) (sym (add-zero disk))
image_from patches disk (suc k) (bytes ∷ images) lt =
    image_from patches (suc disk) k images (le_of_suc-le-suc lt) ∙ ap (λ (n : ℕ). patched patches n (image images k)) (suc-add disk k ∙ sym (add-suc disk k))

pub image_shown : (patches : List Patch) (disk : ℕ) (images : List (List ℕ)) → disk < length images
    → image (shown patches images) disk ≡ patched patches disk (image images disk)
image_shown patches disk images lt = image_from patches 0 disk images lt ∙ ap (λ (n : ℕ). patched patches n (image images disk)) (zero-add disk)

pub length-shown : (patches : List Patch) (images : List (List ℕ)) → length (shown patches images) ≡ length images
length-shown patches images = length-from patches 0 images
