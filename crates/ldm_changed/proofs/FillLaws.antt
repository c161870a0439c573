-- What several writes of parts of a body leave behind the gate.
use Rattle.std.proofs.Common.{◌≡◌, ◌≢◌, inl, inr, ℕ, ◌+◌, ◌-◌, ◌*◌, ◌/◌, ◌<◌, ◌≤◌, List, [], length, get_or, slice_index, drop, All, sym, ap, subst, ◌∙◌, arith}
use Rattle.std.proofs.lemmas.Bool.{cases_lt}
use Rattle.std.proofs.lemmas.List.{get_or_default, get_or-drop, length-drop}
use Rattle.std.proofs.lemmas.List.Elements.{All-nil}
use Rattle.ldm_host.specs.Seen.{Seen, image}
use Rattle.ldm_host.specs.Moves.{Torn, Writes, Changes}
use Rattle.ldm_host.proofs.ChangeLaws.{writes_change, changes_trans}
use Rattle.ldm_changed.specs.Change.{IsChangedBody, ChangesFrom}

-- the bytes of the body stand behind the gate, but for those in blocks that are still to be written
abbrev pub HasAllBut : ℕ → List ℕ → List ℕ → List ℕ → Type 0
HasAllBut gate body left x = (j : ℕ) → 0 < j → j < length body → All (λ n. n ≢ j / 128) left → slice_index x (gate + j) ≡ slice_index body j

module _ (gate : ℕ) (body : List ℕ) where
  -- the header was written over the old body
  pub header_there : (old numbers x y : List ℕ) → ChangesFrom old (record { body = body; numbers = numbers })
      → ((k : ℕ) → 0 < k → k < length old → slice_index x (gate + k) ≡ slice_index old k) → Torn (gate + 1) 511 x y
      → ((k : ℕ) → 1 ≤ k → k < 512 → slice_index y (gate + k) ≡ slice_index body k) → HasAllBut gate body numbers y
  header_there old numbers x y from has torn wrote j low high avoid =
      elim (cases_lt j 512) [
        | inl header ↦ wrote j low header
        | inr behind ↦
            let kept = from.same j behind high avoid in
            torn.outside (gate + j) (inr (omega (arith, behind))) ∙ has j low kept.0 ∙ sym kept.1
      ]

  -- blocks that follow one another were written
  pub blocks_there : (k m n : ℕ) (numbers x y : List ℕ) → ((i : ℕ) → i < m → slice_index numbers (k + i) ≡ n + i) → k + m ≤ length numbers
      → HasAllBut gate body (drop k numbers) x → Torn (gate + 128 * n) (128 * m) x y
      → ((j : ℕ) → 128 * n ≤ j → j < 128 * n + 128 * m → slice_index y (gate + j) ≡ slice_index body j) → HasAllBut gate body (drop (k + m) numbers) y
  blocks_there k m n numbers x y run within has torn wrote j low high avoid =
      elim (cases_lt j (128 * n)) [
        | inl before ↦ torn.outside (gate + j) (inl (omega (arith, before))) ∙ has j low high (others (λ i li e. absurd (omega (arith, before, li, e))))
        | inr from ↦ elim (cases_lt j (128 * n + 128 * m)) [
          | inl here ↦ wrote j from here
          | inr behind ↦ torn.outside (gate + j) (inr (omega (arith, behind))) ∙ has j low high (others (λ i li e. absurd (omega (arith, behind, li, e))))
        ]
      ]
    where
      others : ((i : ℕ) → i < m → n + i ≢ j / 128) → All (λ q. q ≢ j / 128) (drop k numbers)
      others apart i d li e =
          let lk : k + i < length numbers = omega (arith, li, length-drop k numbers) in
          elim (cases_lt i m) [
            | inl first ↦ apart i first (sym (run i first) ∙ sym (get_or_default numbers (k + i) d 0 lk) ∙ sym (get_or-drop k numbers i d) ∙ e)
            | inr later ↦
                (let at : k + m + (i - m) ≡ k + i = omega (arith, later) in
                avoid (i - m) d (omega (arith, later, lk, length-drop (k + m) numbers))
                (get_or-drop (k + m) numbers (i - m) d ∙ ap (λ (q : ℕ). get_or numbers q d) at ∙ sym (get_or-drop k numbers i d) ∙ e))
          ]

  pub all_there : (x : List ℕ) → HasAllBut gate body [] x → (j : ℕ) → 0 < j → j < length body → slice_index x (gate + j) ≡ slice_index body j
  all_there x has j low high = has j low high (All-nil (λ m. m ≢ j / 128))

-- numbers that follow one another are those of blocks of the body
pub run_within : (body numbers : List ℕ) (k m : ℕ) → IsChangedBody body numbers → 1 ≤ m → k + m ≤ length numbers → ((i : ℕ) → i < m → slice_index numbers (k + i) ≡ slice_index numbers k + i)
    → (4 ≤ slice_index numbers k) × (128 * slice_index numbers k + 128 * m ≤ length body)
run_within body numbers k m is some within run =
    let first = is.within k 0 (omega (arith, some, within)) in
    let last = is.within (k + (m - 1)) 0 (omega (arith, some, within)) in
    let at = run (m - 1) (omega (arith, some)) in
    let high = last.1 in
    (first.0, omega (arith, at, high, some))

-- how far the writes have come
pub record IsFilledUpTo (tells : Type 0) (disk gate : ℕ) (body numbers : List ℕ) (k : ℕ) (start now : Seen) : Type 0 where
  pub changes : Changes disk (gate + 1) (length body - 1) start now
  pub wrote : slice_index now.wrote disk ≤ slice_index start.wrote disk + (511 + 128 * k)
  pub there : tells → HasAllBut gate body (drop k numbers) (image now.content disk)

module _ (tells : Type 0) (disk gate : ℕ) (body numbers : List ℕ) where
  pub filled_step : (k m n : ℕ) (start a b : Seen) → disk < length start.sizes → ((i : ℕ) → i < m → slice_index numbers (k + i) ≡ n + i) → k + m ≤ length numbers
      → 4 ≤ n → 128 * n + 128 * m ≤ length body
      → IsFilledUpTo tells disk gate body numbers k start a → Writes disk (gate + 128 * n) (128 * m) a b
      → (tells → (j : ℕ) → 128 * n ≤ j → j < 128 * n + 128 * m → slice_index (image b.content disk) (gate + j) ≡ slice_index body j)
      → IsFilledUpTo tells disk gate body numbers (k + m) start b
  filled_step k m n start a b lt run within low high w writes here = record {
    changes = changes_trans disk (gate + 1) (length body - 1) start a b lt w.changes
        (writes_change disk (gate + 128 * n) (128 * m) (gate + 1) (length body - 1) a b (omega (arith, low)) (omega (arith, high)) writes);
    wrote = let one = writes.wrote in let before = w.wrote in omega (arith, one, before);
    there = λ t. blocks_there gate body k m n numbers (image a.content disk) (image b.content disk) run within (w.there t) writes.content.here (here t);
  }

  pub filled_first : (start a : Seen) → 512 ≤ length body → Writes disk (gate + 1) 511 start a
      → (tells → (old : List ℕ) × ChangesFrom old (record { body = body; numbers = numbers }) × ((k : ℕ) → 0 < k → k < length old → slice_index (image start.content disk) (gate + k) ≡ slice_index old k))
      → (tells → (k : ℕ) → 1 ≤ k → k < 512 → slice_index (image a.content disk) (gate + k) ≡ slice_index body k)
      → IsFilledUpTo tells disk gate body numbers 0 start a
  filled_first start a some writes before here = record {
    changes = writes_change disk (gate + 1) 511 (gate + 1) (length body - 1) start a (omega arith) (omega (arith, some)) writes;
    wrote = let one = writes.wrote in omega (arith, one);
    there = λ t.
        let from = before t in
        header_there gate body from.0 numbers (image start.content disk) (image a.content disk) from.1 from.2 writes.content.here (here t);
  }

pub same_change : (disk at at' n n' : ℕ) (a b : Seen) → at ≡ at' → n ≡ n' → Changes disk at n a b → Changes disk at' n' a b
same_change disk at at' n n' a b e f changes = subst (λ (m : ℕ). Changes disk at' m a b) f (subst (λ (p : ℕ). Changes disk p n a b) e changes)
