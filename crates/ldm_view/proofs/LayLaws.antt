-- Bytes that are laid over a piece of an image, and over the image.
use Rattle.std.proofs.Common.{◌≡◌, ◌⊎◌, inl, inr, ℕ, ◌+◌, ◌-◌, ◌<◌, ◌≤◌, max, min, List, length, drop, get_or, slice_range, sym, ◌∙◌, ap, arith}
use Rattle.std.proofs.lemmas.Bool.{cases_lt}
use Rattle.std.proofs.lemmas.Bool.Decides.{nat_tests}
use Rattle.std.proofs.lemmas.Grind.{same_number_lists}
use Rattle.std.proofs.lemmas.List.{length-take, length-drop, get_or-take, get_or-drop}
use Rattle.ldm_bytes.specs.Places.{put}
use Rattle.ldm_bytes.proofs.PlaceLaws.{length-put, get_or-put_outside, same_range}
use Rattle.ldm_bytes.proofs.ByteLaws.{put_before, put_in, put_behind, sides}
use Rattle.ldm_view.specs.Patches.{laid}
use Rattle.ldm_view.specs.PatchLaws.{length-laid}

pub range_at : (xs : List ℕ) (i j k : ℕ) → k < j - i → get_or (slice_range xs i j) k 0 ≡ get_or xs (i + k) 0
range_at xs i j k lt = get_or-take (j - i) (drop i xs) k 0 lt ∙ get_or-drop i xs k 0

pub range_len : (xs : List ℕ) (i j : ℕ) → j ≤ length xs → length (slice_range xs i j) ≡ j - i
range_len xs i j le = omega (arith, length-take (j - i) (drop i xs), length-drop i xs)

pub laid_fits : (old : List ℕ) (at : ℕ) (bytes : List ℕ) → at + length bytes ≤ length old → laid old at bytes ≡ put old at bytes
unfolding laid
laid_fits old at bytes fits = grind (arith, nat_tests)

-- the bytes that lie over the piece, laid over it
pub lay_over : (image bytes : List ℕ) (from n at first last : ℕ) → from + n ≤ length image → at + length bytes ≤ length image
    → first ≡ max from at → last ≡ min (from + n) (at + length bytes) → first < last
    → put (slice_range image from (from + n)) (first - from) (slice_range bytes (first - at) (last - at)) ≡ slice_range (laid image at bytes) from (from + n)
lay_over image bytes from n at first last inside fits first_is last_is lt =
    same_number_lists _ _ (length-put piece (first - from) shown room ∙ piece_len ∙ sym new_len) each
  where
    piece : List ℕ
    piece = slice_range image from (from + n)

    shown : List ℕ
    shown = slice_range bytes (first - at) (last - at)

    piece_len : length piece ≡ n
    piece_len = range_len image from (from + n) inside ∙ omega arith

    shown_len : length shown ≡ last - first
    shown_len = range_len bytes (first - at) (last - at) (omega arith) ∙ omega arith

    room : first - from + length shown ≤ length piece
    room = omega (arith, shown_len, piece_len)

    new_len : length (slice_range (laid image at bytes) from (from + n)) ≡ n
    new_len = range_len (laid image at bytes) from (from + n) (omega (arith, length-laid image at bytes)) ∙ omega arith

    there : (k : ℕ) → k < n → get_or (slice_range (laid image at bytes) from (from + n)) k 0 ≡ get_or (put image at bytes) (from + k) 0
    there k near = range_at (laid image at bytes) from (from + n) k (omega arith) ∙ ap (λ (l : List ℕ). get_or l (from + k) 0) (laid_fits image at bytes fits)

    here : (k : ℕ) → k < n → get_or piece k 0 ≡ get_or image (from + k) 0
    here k near = range_at image from (from + n) k (omega arith)

    each : (k : ℕ) → k < length (put piece (first - from) shown) → get_or (put piece (first - from) shown) k 0 ≡ get_or (slice_range (laid image at bytes) from (from + n)) k 0
    each k before =
        let near : k < n = omega (arith, length-put piece (first - from) shown room, piece_len) in
        elim (sides (from + k) at (length bytes)) [
          | inl less ↦ put_before piece shown (first - from) room k (omega arith) ∙ here k near ∙ sym (there k near ∙ put_before image bytes at fits (from + k) less)
          | inr rest ↦ elim rest [
            | inl both ↦
                let below : k < first - from + length shown = omega (arith, both.0, both.1, shown_len) in
                put_in piece shown (first - from) room k (omega (arith, both.0)) below
                ∙ range_at bytes (first - at) (last - at) (k - (first - from)) (omega (arith, both.0, both.1))
                ∙ ap (λ (j : ℕ). get_or bytes j 0) (omega (arith, both.0, both.1))
                ∙ sym (there k near ∙ put_in image bytes at fits (from + k) both.0 both.1)
            | inr behind ↦ put_behind piece shown (first - from) room k (omega (arith, shown_len)) ∙ here k near ∙ sym (there k near ∙ put_behind image bytes at fits (from + k) behind)
          ]
        ]

-- no byte lies over the piece
pub lay_beside : (image bytes : List ℕ) (from n at first last : ℕ) → from + n ≤ length image → at + length bytes ≤ length image
    → first ≡ max from at → last ≡ min (from + n) (at + length bytes) → last ≤ first
    → slice_range image from (from + n) ≡ slice_range (laid image at bytes) from (from + n)
lay_beside image bytes from n at first last inside fits first_is last_is le =
    same_range image (laid image at bytes) from (from + n) (sym (length-laid image at bytes)) (λ k ge lt.
    sym (ap (λ (l : List ℕ). get_or l k 0) (laid_fits image at bytes fits) ∙ get_or-put_outside image at bytes k fits (apart k ge lt)))
  where
    apart : (k : ℕ) → from ≤ k → k < from + n → (k < at) ⊎ (at + length bytes ≤ k)
    apart k ge lt = elim (cases_lt k at) [ inl before ↦ inl before | inr behind ↦ inr (omega arith) ]
