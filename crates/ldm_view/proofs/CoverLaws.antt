-- Reads of bytes that one patch gives: what stands under it doesn't matter.
use Rattle.std.proofs.Common.{◌≡◌, ◌⊎◌, inl, inr, ℕ, zero, suc, ◌+◌, ◌*◌, ◌/◌, ◌<◌, ◌≤◌, List, [], ◌∷◌, length, take, drop, get_or, slice_index, slice_range, slice_get, Some, refl, sym, ◌∙◌, ap, subst, arith}
use Rattle.std.proofs.Math.Seq.{take-append_seam}
use Rattle.std.proofs.lemmas.Bool.{cases_eq}
use Rattle.std.proofs.lemmas.Grind.{same_number_lists}
use Rattle.std.proofs.lemmas.Option.{same_Some}
use Rattle.ldm_bytes.specs.Places.{put}
use Rattle.ldm_bytes.proofs.PlaceLaws.{length-put, drop-put}
use Rattle.ldm_bytes.proofs.ByteLaws.{put_before, put_in, put_behind, sides}
use Rattle.ldm_host.specs.Seen.{Seen, image}
use Rattle.ldm_host.specs.Moves.{Torn}
use Rattle.ldm_view.specs.declared.patch.Patch.{Patch}
use Rattle.ldm_view.specs.Patches.{laid, with_patch, patched, shown, FitAll, IsOnDisk, Covers}
use Rattle.ldm_view.specs.PatchLaws.{length-laid, image_shown}
use Rattle.ldm_view.proofs.LayLaws.{laid_fits}
use Rattle.ldm_view.proofs.PatchedLaws.{with_here, with_other}

-- bytes laid over two images that differ in a range
module _ (at n : ℕ) (x y : List ℕ) (from : ℕ) (bytes : List ℕ) (fits : from + length bytes ≤ length x) (torn : Torn at n x y) where
  fits_new : from + length bytes ≤ length y
  fits_new = omega (arith, fits, torn.size)

  of_old : (k : ℕ) → slice_index (laid x from bytes) k ≡ slice_index (put x from bytes) k
  of_old k = ap (λ (l : List ℕ). slice_index l k) (laid_fits x from bytes fits)

  of_new : (k : ℕ) → slice_index (laid y from bytes) k ≡ slice_index (put y from bytes) k
  of_new k = ap (λ (l : List ℕ). slice_index l k) (laid_fits y from bytes fits_new)

  same_at : (k : ℕ) → (k < from) ⊎ (from + length bytes ≤ k) → slice_index y k ≡ slice_index x k → slice_index (laid y from bytes) k ≡ slice_index (laid x from bytes) k
  same_at k (inl before) same = of_new k ∙ put_before y bytes from fits_new k before ∙ same ∙ sym (of_old k ∙ put_before x bytes from fits k before)
  same_at k (inr behind) same = of_new k ∙ put_behind y bytes from fits_new k behind ∙ same ∙ sym (of_old k ∙ put_behind x bytes from fits k behind)

  same_in : (k : ℕ) → from ≤ k → k < from + length bytes → slice_index (laid y from bytes) k ≡ slice_index (laid x from bytes) k
  same_in k ge lt = of_new k ∙ put_in y bytes from fits_new k ge lt ∙ sym (of_old k ∙ put_in x bytes from fits k ge lt)

  same_size : length (laid y from bytes) ≡ length (laid x from bytes)
  same_size = length-laid y from bytes ∙ torn.size ∙ sym (length-laid x from bytes)

  pub torn_laid : Torn at n (laid x from bytes) (laid y from bytes)
  torn_laid = record {
    size = same_size;
    outside = λ k out. elim (sides k from (length bytes)) [
      | inl before ↦ same_at k (inl before) (torn.outside k out)
      | inr rest ↦ elim rest [
        | inl both ↦ same_in k both.0 both.1
        | inr behind ↦ same_at k (inr behind) (torn.outside k out)
      ]
    ];
  }

  -- they lie over the whole range
  pub covered_laid : from ≤ at → at + n ≤ from + length bytes → laid y from bytes ≡ laid x from bytes
  covered_laid first last = same_number_lists (laid y from bytes) (laid x from bytes) same_size each
    where
      each : (k : ℕ) → k < length (laid y from bytes) → get_or (laid y from bytes) k 0 ≡ get_or (laid x from bytes) k 0
      each k lt = elim (sides k from (length bytes)) [
        | inl before ↦ same_at k (inl before) (torn.outside k (inl (omega (arith, before, first))))
        | inr rest ↦ elim rest [
          | inl both ↦ same_in k both.0 both.1
          | inr behind ↦ same_at k (inr behind) (torn.outside k (inr (omega (arith, behind, last))))
        ]
      ]

-- images that differ in a range which a patch covers are shown alike
covered_by : (patches : List Patch) (k : ℕ) (p : Patch) (disk at n : ℕ) (x y : List ℕ) → slice_get patches k ≡ Some p → p.disk ≡ disk → p.at ≤ at → at + n ≤ p.at + length p.bytes.items
    → FitAll patches disk (length x) → Torn at n x y → patched patches disk y ≡ patched patches disk x
unfolding patched
covered_by [] k p disk at n x y there here first last fit torn = absurd cc
covered_by (q ∷ more) zero p disk at n x y there here first last fit torn =
    let is : q ≡ p = same_Some q p there in
    let same : with_patch disk p y ≡ with_patch disk p x =
    with_here disk p y here ∙ covered_laid at n x y p.at p.bytes.items (fit zero p there here) torn first last ∙ sym (with_here disk p x here) in
    ap (patched more disk) (ap (λ (r : Patch). with_patch disk r y) is ∙ same ∙ ap (λ (r : Patch). with_patch disk r x) (sym is))
covered_by (q ∷ more) (suc k) p disk at n x y there here first last fit torn =
    elim (cases_eq q.disk disk) [
      | inl is ↦
          ap (patched more disk) (with_here disk q y is)
          ∙ covered_by more k p disk at n (laid x q.at q.bytes.items) (laid y q.at q.bytes.items) there here first last
          (λ j r found on. subst (λ (m : ℕ). r.at + length r.bytes.items ≤ m) (sym (length-laid x q.at q.bytes.items)) (fit (suc j) r found on))
          (torn_laid at n x y q.at q.bytes.items (fit zero q refl is) torn)
          ∙ ap (patched more disk) (sym (with_here disk q x is))
      | inr ne ↦
          ap (patched more disk) (with_other disk q y ne)
          ∙ covered_by more k p disk at n x y there here first last (λ j r found on. fit (suc j) r found on) torn
          ∙ ap (patched more disk) (sym (with_other disk q x ne))
    ]

put_torn : (x buf : List ℕ) (at : ℕ) → at + length buf ≤ length x → Torn at (length buf) x (put x at buf)
put_torn x buf at fits = record {
  size = length-put x at buf fits;
  outside = λ k out. elim out [
    | inl before ↦ put_before x buf at fits k before
    | inr behind ↦ put_behind x buf at fits k behind
  ];
}

put_there : (x buf : List ℕ) (at : ℕ) → at + length buf ≤ length x → buf ≡ slice_range (put x at buf) at (at + length buf)
put_there x buf at fits =
    sym (ap (λ (m : ℕ). take m (drop at (put x at buf))) (omega arith) ∙ ap (take (length buf)) (drop-put x at buf fits) ∙ take-append_seam buf (drop (at + length buf) x))

-- what the view reads where one patch covers it: what is laid over any bytes
pub view_covered : (patches : List Patch) (host : Seen) (disk at n : ℕ) (buf piece : List ℕ) → disk < length host.sizes → at + n ≤ 512 * slice_index host.sizes disk
    → length host.content ≡ length host.sizes → length (image host.content disk) / 512 ≡ slice_index host.sizes disk
    → ((k : ℕ) (p : Patch) → slice_get patches k ≡ Some p → IsOnDisk host.sizes p)
    → Covers patches disk at n → length buf ≡ n
    → ((whole : List ℕ) → at + length buf ≤ length whole → FitAll patches disk (length whole) → buf ≡ slice_range whole at (at + length buf)
    → piece ≡ slice_range (patched patches disk whole) at (at + length buf))
    → piece ≡ slice_range (image (shown patches host.content) disk) at (at + n)
view_covered patches host disk at n buf piece lt range one_each size lie cover len is_laid =
    is_laid (put whole at buf) (omega (arith, room, sizes)) (λ k p there on. subst (λ (m : ℕ). p.at + length p.bytes.items ≤ m) (sym sizes) (fits k p there on)) (put_there whole buf at room)
    ∙ ap (λ (l : List ℕ). slice_range l at (at + length buf)) same
    ∙ ap (λ (m : ℕ). slice_range (patched patches disk whole) at (at + m)) len
    ∙ ap (λ (l : List ℕ). slice_range l at (at + n)) (sym (image_shown patches disk host.content (subst (λ (m : ℕ). disk < m) (sym one_each) lt)))
  where
    whole : List ℕ
    whole = image host.content disk

    room : at + length buf ≤ length whole
    room = omega (arith, range, size, len)

    sizes : length (put whole at buf) ≡ length whole
    sizes = length-put whole at buf room

    fits : FitAll patches disk (length whole)
    fits k p there is_here =
        let end : p.at + length p.bytes.items ≤ 512 * slice_index host.sizes disk = subst (λ (d : ℕ). p.at + length p.bytes.items ≤ 512 * slice_index host.sizes d) is_here (lie k p there).range in
        omega (arith, end, size)

    same : patched patches disk (put whole at buf) ≡ patched patches disk whole
    same = covered_by patches cover.number cover.patch disk at (length buf) whole (put whole at buf) cover.there cover.here cover.first (omega (arith, cover.last, len)) fits (put_torn whole buf at room)
