-- Two sectors lie at two places, inside their columns, and beside no parity.
use Rattle.std.proofs.Common.{◌≡◌, ℕ, ◌+◌, ◌-◌, ◌*◌, ◌/◌, ◌%◌, ◌<◌, ◌≤◌, ◌↔◌, ap, sym, subst, ◌∙◌, arith}
use Rattle.std.proofs.lemmas.Grind.{common_steps}
use Rattle.std.proofs.lemmas.Nat.{same_from_place, div_below, mod_below, div-add-mod'}
use Rattle.std.proofs.Math.Nat.{mod-eq_of_lt, div-div-eq-div-mul}
use Rattle.ldm_places.specs.Places.{stripe_capacity, stripe_column, stripe_offset, raid5_capacity, raid5_row, parity_column, raid5_column, raid5_offset}

-- a number is one with its quotient and its rest
pub same_quotient : (w x y : ℕ) → x / w ≡ y / w → x % w ≡ y % w → x ≡ y
same_quotient w x y p q = sym (div-add-mod' x w) ∙ (ap (λ n. n * w + x % w) p ∙ ap (λ n. y / w * w + n) q) ∙ div-add-mod' y w

-- a place in chunks of u, in rows, tells the row and the rest
pub same_row : (u a b x y : ℕ) → 0 < u → a * u + x % u ≡ b * u + y % u → (a ≡ b) × (x % u ≡ y % u)
same_row u a b x y h e = same_from_place a (x % u) b (y % u) u (mod_below x u h) (mod_below y u h) e

pub stripe_apart : (k u x y : ℕ) → 0 < u → stripe_column k u x ≡ stripe_column k u y → stripe_offset k u x ≡ stripe_offset k u y → x ≡ y
stripe_apart k u x y h c o = grind (arith, same_row, same_quotient)

-- row q of columns of m sectors, in chunks of u
pub inside_row : (u m q r : ℕ) → q < m / u → r < u → q * u + r < m
inside_row u m q r h g = grind (arith, common_steps)

pub rows_within : (k u m x : ℕ) → 0 < u → 0 < k → x < k * u * (m / u) → x / u / k < m / u
rows_within k u m x hu hk h =
    let e : k * u * (m / u) ≡ m / u * k * u = omega arith in
    let P : ℕ → Type 0 = λ n. x < n in
    let chunks : x / u < m / u * k = div_below x u (m / u * k) hu (subst P e h) in
    div_below (x / u) k (m / u) hk chunks

pub stripe_inside : (k u m x : ℕ) → 0 < u → 0 < k → x < stripe_capacity k u m → (stripe_column k u x < k) × (stripe_offset k u x < m)
stripe_inside k u m x hu hk h = grind (arith, mod_below, inside_row, rows_within)

-- two steps from one place that are less than a round come to two places
pub round_apart : (k p d e : ℕ) → p < k → d < k → e < k → (p + d) % k ≡ (p + e) % k → d ≡ e
round_apart k p d e hp hd he h = grind (arith, common_steps)

pub parity_below : (k row : ℕ) → 0 < k → parity_column k row < k
parity_below k row h = omega arith

-- the d-th data column of a row, from its parity's
data_column : (k p d : ℕ) → (p + 1 + d) % k ≡ (p + (d + 1)) % k
data_column k p d = let e : p + 1 + d ≡ p + (d + 1) = omega arith in ap (λ n. n % k) e

pub raid5_same_row : (k u x y : ℕ) → 0 < u → raid5_offset k u x ≡ raid5_offset k u y → (raid5_row k u x ≡ raid5_row k u y) × (x % u ≡ y % u)
raid5_same_row k u x y h o = same_row u (raid5_row k u x) (raid5_row k u y) x y h o

pub raid5_apart : (k u x y : ℕ) → 0 < u → 2 ≤ k → raid5_column k u x ≡ raid5_column k u y → raid5_offset k u x ≡ raid5_offset k u y → x ≡ y
raid5_apart k u x y h hk c o =
    grind (arith, raid5_same_row, parity_below, mod_below, data_column, round_apart, same_quotient)

-- no sector lies where its row has the parity
pub beside_parity : (k u x : ℕ) → 2 ≤ k → raid5_column k u x ≡ parity_column k (raid5_row k u x) → ⊥
beside_parity k u x hk c =
    let p : parity_column k (raid5_row k u x) < k = parity_below k (raid5_row k u x) (omega arith) in
    let pos : 0 < k - 1 = omega arith in
    let d : x / u % (k - 1) < k - 1 = mod_below (x / u) (k - 1) pos in
    let here : (parity_column k (raid5_row k u x) + 0) % k ≡ parity_column k (raid5_row k u x) =
    (let e : parity_column k (raid5_row k u x) + 0 ≡ parity_column k (raid5_row k u x) = omega arith in ap (λ n. n % k) e ∙ mod-eq_of_lt p) in
    let none : x / u % (k - 1) + 1 ≡ 0 =
    round_apart k (parity_column k (raid5_row k u x)) (x / u % (k - 1) + 1) 0 p (omega arith) (omega arith)
    (sym (data_column k (parity_column k (raid5_row k u x)) (x / u % (k - 1))) ∙ c ∙ sym here) in
    absurd (omega arith)

-- nor where another's has it
pub no_parity : (k u x y : ℕ) → 0 < u → 2 ≤ k → raid5_column k u x ≡ parity_column k (raid5_row k u y) → raid5_offset k u x ≡ raid5_offset k u y → ⊥
no_parity k u x y h hk c o = grind (arith, raid5_same_row, beside_parity)

pub raid5_inside : (k u m x : ℕ) → 0 < u → 2 ≤ k → x < raid5_capacity k u m
    → (raid5_column k u x < k) × (parity_column k (raid5_row k u x) < k) × (raid5_offset k u x < m)
raid5_inside k u m x hu hk h = grind (arith, mod_below, parity_below, inside_row, rows_within)

-- two sectors have one parity place exactly where they are in one row of chunks, at one offset in their chunks
pub one_parity : (k u x y : ℕ) → 0 < u
    → ((parity_column k (raid5_row k u x) ≡ parity_column k (raid5_row k u y)) × (raid5_offset k u x ≡ raid5_offset k u y))
    ↔ ((x / (u * (k - 1)) ≡ y / (u * (k - 1))) × (x % u ≡ y % u))
one_parity k u x y h = grind (arith, div-div-eq-div-mul, raid5_same_row)
