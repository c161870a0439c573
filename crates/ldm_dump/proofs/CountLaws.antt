-- How many numbers of a range pass a test, and how many sectors are lost.
use Rattle.std.proofs.Common.{◌≡◌, ℕ, zero, suc, ◌+◌, ◌-◌, ◌*◌, ◌/◌, ◌%◌, ◌<◌, ◌≤◌, Bool, true, false, length, cond, refl, ap, sym, subst, ◌∙◌, arith}
use Rattle.std.specs.List.{range_with_len, count_by}
use Rattle.std.proofs.lemmas.List.FromFn.{length-range_with_len}
use Rattle.std.proofs.lemmas.List.Sums.{count_by-le-length, sum_by-cons}
use Rattle.std.proofs.Math.Nat.{mod-add-div'}
use Rattle.ldm_places.specs.Layouts.{Layout, is_tiled}
use Rattle.ldm_places.specs.Columns.{columns_of, chunk_of, IsColumned}
use Rattle.ldm_copy.specs.declared.found.Found.{Found}
use Rattle.ldm_dump.specs.Sources.{is_lost, lost_before}
use Rattle.ldm_dump.specs.Runs.{IsRun}
use Rattle.ldm_dump.specs.declared.runs.Run.{Run}
use Rattle.ldm_dump.proofs.RunLaws.{chunk_is, lost_along, lost_again}

-- ---- numbers that pass

-- how many of n numbers, from a on, pass
abbrev pub count_in : (ℕ → Bool) → ℕ → ℕ → ℕ
count_in t a n = count_by t (range_with_len a n)

count_next : (t : ℕ → Bool) (a n : ℕ) → count_in t a (suc n) ≡ cond (t a) 1 0 + count_in t (a + 1) n
count_next t a n = sum_by-cons (λ y. cond (t y) 1 0) a (range_with_len (a + 1) n)

pub count_few : (t : ℕ → Bool) (a n : ℕ) → count_in t a n ≤ n
count_few t a n = omega (arith, count_by-le-length t (range_with_len a n), length-range_with_len a n)

-- those of a range, and those of the range behind it
pub count_both : (t : ℕ → Bool) (a m n : ℕ) → count_in t a (m + n) ≡ count_in t a m + count_in t (a + m) n
count_both t a zero n =
    let e : a ≡ a + 0 = omega arith in
    let f : 0 + n ≡ n = omega arith in
    let same = ap (λ (k : ℕ). count_in t a k) f ∙ ap (λ (b : ℕ). count_in t b n) e in
    omega (arith, same)
count_both t a (suc m) n =
    let e : suc m + n ≡ suc (m + n) = omega arith in
    let f : a + 1 + m ≡ a + suc m = omega arith in
    let rest = count_both t (a + 1) m n ∙ ap (λ (b : ℕ). count_in t (a + 1) m + count_in t b n) f in
    let first = ap (λ (k : ℕ). count_in t a k) e ∙ count_next t a (m + n) in
    omega (arith, first, rest, count_next t a m)

-- all pass, or none does
pub count_same : (t : ℕ → Bool) (b : Bool) (a n : ℕ) → ((c : ℕ) → a ≤ c → c < a + n → t c ≡ b) → count_in t a n ≡ cond b n 0
count_same t true a zero same = refl
count_same t false a zero same = refl
count_same t b a (suc n) same =
    let rest = count_same t b (a + 1) n (λ c low high. same c (omega (arith, low)) (omega (arith, high))) in
    count_next t a n ∙ (ap (λ (d : Bool). cond d 1 0 + count_in t (a + 1) n) (same a (omega arith) (omega arith)) ∙ (ap (λ (k : ℕ). cond b 1 0 + k) rest ∙ go b))
  where
    go : (d : Bool) → cond d 1 0 + cond d n 0 ≡ cond d (suc n) 0
    go true = omega arith
    go false = refl

-- ---- a test that repeats

-- d numbers behind another, a number passes as that does
abbrev pub Repeats : (ℕ → Bool) → ℕ → Type 0
Repeats t d = (c : ℕ) → t (c + d) ≡ t c

abbrev one : Bool → ℕ
one b = cond b 1 0

count_moved : (t : ℕ → Bool) (d : ℕ) → Repeats t d → (a n : ℕ) → count_in t (a + d) n ≡ count_in t a n
count_moved t d again a zero = refl
count_moved t d again a (suc n) =
    let e : a + d + 1 ≡ a + 1 + d = omega arith in
    let rest = ap (λ (b : ℕ). count_in t b n) e ∙ count_moved t d again (a + 1) n in
    let here = ap (λ (b : Bool). one b) (again a) in
    omega (arith, count_next t (a + d) n, count_next t a n, rest, here)

-- q times as many as in one turn, and those of the rest
pub count_turns : (t : ℕ → Bool) (d : ℕ) → Repeats t d → (q r : ℕ) → count_in t 0 (q * d + r) ≡ q * count_in t 0 d + count_in t 0 r
count_turns t d again zero r =
    let e : 0 * d + r ≡ r = omega arith in
    let f : count_in t 0 r ≡ 0 * count_in t 0 d + count_in t 0 r = omega arith in
    ap (λ (k : ℕ). count_in t 0 k) e ∙ f
count_turns t d again (suc q) r =
    let e : suc q * d + r ≡ d + (q * d + r) = omega arith in
    let f : suc q * count_in t 0 d ≡ count_in t 0 d + q * count_in t 0 d = omega arith in
    let first = ap (λ (k : ℕ). count_in t 0 k) e ∙ count_both t 0 d (q * d + r) in
    let later = count_moved t d again 0 (q * d + r) ∙ count_turns t d again q r in
    omega (arith, first, later, f)

-- ---- sectors that are lost

-- a run is lost whole or not at all, and so is its front
pub lost_more : (found : Found) (l : Layout) (x n : ℕ) (run : Run) → IsRun found l x run → n ≤ run.sectors → lost_before found l (x + n) ≡ lost_before found l x + cond (is_lost found l x) n 0
lost_more found l x n run is le =
    count_both (is_lost found l) 0 x n
    ∙ ap (λ (k : ℕ). lost_before found l x + k)
    (count_same (is_lost found l) (is_lost found l x) (0 + x) n (λ c low high.
    let e : x + (c - x) ≡ c = omega (arith, low) in
    subst (λ (y : ℕ). is_lost found l y ≡ is_lost found l x) e (lost_along found l x run (c - x) is (omega (arith, low, high, le)))))

-- u sectors of a chunk and k columns: the sectors of whole turns of the chunks over the columns, and those of the rest
pub lost_turns : (found : Found) (l : Layout) → is_tiled l.shape ≡ false → IsColumned l → (size u k turn rest : ℕ) → u ≡ chunk_of l → k ≡ length (columns_of l)
    → turn ≡ lost_before found l (u * k) → rest ≡ lost_before found l (size % (u * k)) → size / (u * k) * turn + rest ≡ lost_before found l size
lost_turns found l tiled columned size u k turn rest chunk columns first behind =
    let d = u * k in
    let is : d ≡ l.chunk * length (columns_of l) = ap (λ (n : ℕ). n * k) (chunk ∙ chunk_is l tiled) ∙ ap (λ (n : ℕ). l.chunk * n) columns in
    let again : Repeats (is_lost found l) d = subst (λ (n : ℕ). Repeats (is_lost found l) n) (sym is) (lost_again found l tiled columned) in
    let whole : size / d * d + size % d ≡ size = omega (arith, mod-add-div' size d) in
    ap (λ (n : ℕ). size / d * n + rest) first
    ∙ (ap (λ (n : ℕ). size / d * lost_before found l d + n) behind
    ∙ (sym (count_turns (is_lost found l) d again (size / d) (size % d)) ∙ ap (λ (n : ℕ). lost_before found l n) whole))

-- whole turns lose no more than all sectors
pub turns_few : (found : Found) (l : Layout) → is_tiled l.shape ≡ false → IsColumned l → (size u k turn : ℕ) → u ≡ chunk_of l → k ≡ length (columns_of l)
    → turn ≡ lost_before found l (u * k) → size / (u * k) * turn ≤ size
turns_few found l tiled columned size u k turn chunk columns first =
    let all = lost_turns found l tiled columned size u k turn (lost_before found l (size % (u * k))) chunk columns first refl in
    omega (arith, all, count_few (is_lost found l) 0 size)
