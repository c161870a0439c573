-- Lists of bytes: parts of them, and bytes that are put into one.
use Rattle.std.proofs.Common.{◌≡◌, ◌⊎◌, inl, inr, ℕ, ◌+◌, ◌-◌, ◌<◌, ◌≤◌, List, ◌++◌, length, take, drop, slice_index, sym, subst, arith, rules}
use Rattle.std.proofs.lemmas.Bool.{cases_lt}
use Rattle.std.proofs.lemmas.List.{places, take-append-drop, length-take, get_or-take, get_or_past, get_or-append-add, get_or_append_left}
use Rattle.ldm_bytes.specs.Numbers.{IsBytes}
use Rattle.ldm_bytes.specs.Places.{put}

pub IsBytes-take : (n : ℕ) (bytes : List ℕ) → IsBytes bytes → IsBytes (take n bytes)
IsBytes-take n bytes h i =
    elim (cases_lt i n) [
      | inl lt ↦ rw (get_or-take n bytes i 0 lt) (h i)
      | inr le ↦ rw (get_or_past (take n bytes) i 0 (omega (arith, length-take n bytes))) (omega arith)
    ]

pub IsBytes-back : (a b : List ℕ) → IsBytes (a ++ b) → IsBytes b
IsBytes-back a b h i = rw (← get_or-append-add a b i 0) (h (length a + i))

pub IsBytes-drop : (n : ℕ) (bytes : List ℕ) → IsBytes bytes → IsBytes (drop n bytes)
IsBytes-drop n bytes h = IsBytes-back (take n bytes) (drop n bytes) (subst IsBytes (sym (take-append-drop n bytes)) h)

pub IsBytes-front : (a b : List ℕ) → IsBytes (a ++ b) → IsBytes a
IsBytes-front a b h i =
    elim (cases_lt i (length a)) [
      | inl lt ↦ rw (← get_or_append_left a b 0 i lt) (h i)
      | inr le ↦ rw (get_or_past a i 0 le) (omega arith)
    ]

-- the bytes in and round a range that is put
module _ (old bytes : List ℕ) (at : ℕ) (fits : at + length bytes ≤ length old) where
  pub put_before : (k : ℕ) → k < at → slice_index (put old at bytes) k ≡ slice_index old k
  put_before k lt = search (rules, places)

  pub put_in : (k : ℕ) → at ≤ k → k < at + length bytes → slice_index (put old at bytes) k ≡ slice_index bytes (k - at)
  put_in k ge lt = search (rules, places)

  pub put_behind : (k : ℕ) → at + length bytes ≤ k → slice_index (put old at bytes) k ≡ slice_index old k
  put_behind k ge = search (rules, places)

pub sides : (k at n : ℕ) → (k < at) ⊎ ((at ≤ k) × (k < at + n)) ⊎ (at + n ≤ k)
sides k at n = grind arith

pub bytes_put : (old bytes : List ℕ) (at : ℕ) → at + length bytes ≤ length old → IsBytes old → IsBytes bytes → IsBytes (put old at bytes)
bytes_put old bytes at fits was are k =
    elim (sides k at (length bytes)) [
      | inl lt ↦ omega (arith, put_before old bytes at fits k lt, was k)
      | inr rest ↦ elim rest [
        | inl both ↦ omega (arith, put_in old bytes at fits k both.0 both.1, are (k - at))
        | inr ge ↦ omega (arith, put_behind old bytes at fits k ge, was k)
      ]
    ]
