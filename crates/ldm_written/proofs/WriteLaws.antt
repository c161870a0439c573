-- A block that is written: what is compared with it, and what its write leaves.
use Rattle.std.proofs.Common.{◌≡◌, ℕ, ◌+◌, ◌-◌, ◌*◌, ◌<◌, ◌≤◌, true, List, ◌++◌, take, drop, sym, ap, ◌∙◌, arith, length, replicate, min, inl, inr, ◌↔◌, Bool, false, IsTrue}
use Rattle.std.proofs.lemmas.List.{drop-drop, drop-take, append-nil, take_at, take-append-le, take-take, take_all, take_rest, drop-append-le, drop-replicate, length-append, length-take-le, length-drop, length-replicate}
use Rattle.ldm_frags.specs.Blocks.{count, written_block, block_at, head}
use Rattle.ldm_vmdb.specs.Parts.{parts_of}
use Rattle.ldm_written.specs.Written.{filled, part_bytes}
use Rattle.std.proofs.lemmas.Bool.{cases_lt}
use Rattle.ldm_bytes.specs.Places.{put}
use Rattle.std.specs.Prelude.{bytes_eq}
use Rattle.std.proofs.Math.Seq.{take-add}
use Rattle.std.proofs.lemmas.Slice.Eq.{bytes_eq-Decides}
use Rattle.ldm_bytes.proofs.PlaceLaws.{drop-put, length-put, get_or-put_outside, same_range}

-- ---- Blocks that are put into a list of blocks.

-- what a block's write leaves
pub record Writes (old new : List ℕ) (number : ℕ) (x : List ℕ) : Type 0 where
  pub from : 4 ≤ number
  pub within : number < count old + 4
  pub block : length x ≡ 128
  pub put : new ≡ put old (128 * (number - 4)) x

module _ (old new : List ℕ) (number : ℕ) (x : List ℕ) (w : Writes old new number x) where
  fits : 128 * (number - 4) + length x ≤ length old
  fits = (let from = w.from in let within = w.within in let block = w.block in omega arith)

  pub written_here : block_at new number ≡ x
  written_here =
      ap (λ (b : List ℕ). block_at b number) w.put
      ∙ ap (take 128) (drop-put old (128 * (number - 4)) x fits)
      ∙ take_at x (drop (128 * (number - 4) + length x) old) 128 w.block

  pub written_other : (b : ℕ) → 4 ≤ b → (b ≡ number → ⊥) → block_at new b ≡ block_at old b
  written_other b from_b apart =
      let at : ℕ = 128 * (b - 4) in
      let span : 128 ≡ at + 128 - at = omega arith in
      let from = w.from in
      let block = w.block in
      ap (λ (y : List ℕ). block_at y b) w.put
      ∙ ap (λ (n : ℕ). take n (drop at (put old (128 * (number - 4)) x))) span
      ∙ same_range (put old (128 * (number - 4)) x) old at (at + 128)
      (length-put old (128 * (number - 4)) x fits) (λ k low high.
      get_or-put_outside old (128 * (number - 4)) x k fits
      (elim (cases_lt k (128 * (number - 4))) [
        | inl before ↦ inl before
        | inr behind ↦ inr (omega arith)
      ]))
      ∙ ap (λ (n : ℕ). take n (drop at old)) (sym span)

-- bytes with zeros behind them
pub zeros_behind : (bytes : List ℕ) → put (replicate 112 0) 0 bytes ≡ bytes ++ replicate (112 - length bytes) 0
zeros_behind bytes = ap (λ (r : List ℕ). bytes ++ r) (drop-replicate (0 + length bytes) 112 0 ∙ ap (λ (n : ℕ). replicate n 0) (omega arith))

-- the bytes of a part, with zeros behind them
pub part_filled : (bytes : List ℕ) (i end : ℕ) (part : List ℕ) → i < parts_of (length bytes) → end ≡ min (length bytes) (112 * i + 112) → part ≡ take (end - 112 * i) (drop (112 * i) bytes) → part ++ replicate (112 - length part) 0 ≡ part_bytes bytes i
part_filled bytes i end part lt e is =
    let zeros : List ℕ = replicate (112 * parts_of (length bytes) - length bytes) 0 in
    let split : drop (112 * i) (filled bytes) ≡ drop (112 * i) bytes ++ zeros = drop-append-le (112 * i) bytes zeros (omega arith) in
    let rest = length-drop (112 * i) bytes in
    elim (cases_lt (length bytes) (112 * i + 112)) [
      | inl last ↦
          let span : end - 112 * i ≡ length bytes - 112 * i = omega arith in
          let all : part ≡ drop (112 * i) bytes = is ∙ ap (λ (n : ℕ). take n (drop (112 * i) bytes)) span ∙ take_rest bytes (112 * i) in
          let len = ap length all in
          let parts : parts_of (length bytes) ≡ i + 1 = omega arith in
          let count : length zeros ≡ 112 * parts_of (length bytes) - length bytes = length-replicate (112 * parts_of (length bytes) - length bytes) 0 in
          let whole = length-append (drop (112 * i) bytes) zeros in
          ap (λ (r : List ℕ). r ++ replicate (112 - length part) 0) all
          ∙ ap (λ (n : ℕ). drop (112 * i) bytes ++ replicate n 0) (omega arith)
          ∙ sym (take_all 112 (drop (112 * i) bytes ++ zeros) (omega arith))
          ∙ ap (take 112) (sym split)
      | inr more ↦
          let span : end - 112 * i ≡ 112 = omega arith in
          let chunk : part ≡ take 112 (drop (112 * i) bytes) = is ∙ ap (λ (n : ℕ). take n (drop (112 * i) bytes)) span in
          let len : length part ≡ 112 = ap length chunk ∙ length-take-le 112 (drop (112 * i) bytes) (omega arith) in
          let full : 112 - length part ≡ 0 = omega arith in
          ap (λ (n : ℕ). part ++ replicate n 0) full ∙ append-nil part ∙ chunk
          ∙ sym (take-append-le 112 (drop (112 * i) bytes) zeros (omega arith))
          ∙ ap (take 112) (sym split)
    ]

-- ---- A block that is compared with what is written.

abbrev pub place : ℕ → ℕ
place number = 128 * (number - 4)

block_pieces : (xs : List ℕ) (at : ℕ) → take 128 (drop at xs) ≡ take (at + 16 - at) (drop at xs) ++ take (at + 128 - (at + 16)) (drop (at + 16) xs)
block_pieces xs at =
    let first : at + 16 - at ≡ 16 = omega arith in
    let second : at + 128 - (at + 16) ≡ 112 = omega arith in
    take-add 16 112 (drop at xs) ∙ ap (λ (l : List ℕ). take 16 (drop at xs) ++ take 112 l) (drop-drop 16 at xs)
    ∙ ap (λ (n : ℕ). take n (drop at xs) ++ take 112 (drop (at + 16) xs)) (sym first) ∙ ap (λ (n : ℕ). take (at + 16 - at) (drop at xs) ++ take n (drop (at + 16) xs)) (sym second)

first_piece : (xs : List ℕ) (at : ℕ) → take (at + 16 - at) (drop at xs) ≡ take 16 (take 128 (drop at xs))
first_piece xs at =
    let first : at + 16 - at ≡ 16 = omega arith in
    ap (λ (n : ℕ). take n (drop at xs)) first ∙ sym (take-take 16 128 (drop at xs) (omega arith))

second_piece : (xs : List ℕ) (at : ℕ) → take (at + 128 - (at + 16)) (drop (at + 16) xs) ≡ drop 16 (take 128 (drop at xs))
second_piece xs at =
    let second : at + 128 - (at + 16) ≡ 112 = omega arith in
    ap (λ (n : ℕ). take n (drop (at + 16) xs)) second ∙ ap (take 112) (sym (drop-drop 16 at xs)) ∙ sym (drop-take 16 112 (drop at xs))

pub block_then : (blocks : List ℕ) (number g p n : ℕ) (bytes first second : List ℕ) (a b : Bool) → first ≡ head number g p n → second ≡ bytes
    → a ≡ bytes_eq (take (place number + 16 - place number) (drop (place number) blocks)) first → a ≡ true
    → b ≡ bytes_eq (take (place number + 128 - (place number + 16)) (drop (place number + 16) blocks)) second → IsTrue b ↔ (block_at blocks number ≡ written_block number g p n bytes)
unfolding written_block
block_then blocks number g p n bytes first second a b is_first is_second head_is met rest_is = (
  λ t.
      let one = (bytes_eq-Decides (take (place number + 16 - place number) (drop (place number) blocks)) first).0 (sym head_is ∙ met) in
      let two = (bytes_eq-Decides (take (place number + 128 - (place number + 16)) (drop (place number + 16) blocks)) second).0 (sym rest_is ∙ t) in
      block_pieces blocks (place number) ∙ ap (λ (l : List ℕ). l ++ take (place number + 128 - (place number + 16)) (drop (place number + 16) blocks)) (one ∙ is_first)
      ∙ ap (λ (l : List ℕ). head number g p n ++ l) (two ∙ is_second),
  λ same. rest_is ∙ (bytes_eq-Decides (take (place number + 128 - (place number + 16)) (drop (place number + 16) blocks)) second).1 (second_piece blocks (place number) ∙ ap (λ (l : List ℕ). drop 16 l) same ∙ sym is_second),
)

pub block_else : (blocks : List ℕ) (number g p n : ℕ) (bytes first : List ℕ) (a : Bool) → first ≡ head number g p n
    → a ≡ bytes_eq (take (place number + 16 - place number) (drop (place number) blocks)) first → a ≡ false
    → IsTrue a ↔ (block_at blocks number ≡ written_block number g p n bytes)
unfolding written_block
block_else blocks number g p n bytes first a is_first head_is not = (
  λ t. let bad : true ≡ false = sym t ∙ not in absurd cc,
  λ same. head_is ∙ (bytes_eq-Decides (take (place number + 16 - place number) (drop (place number) blocks)) first).1 (first_piece blocks (place number) ∙ ap (λ (l : List ℕ). take 16 l) same ∙ sym is_first),
)
