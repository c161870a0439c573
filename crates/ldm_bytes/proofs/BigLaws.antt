-- The bytes of the number that bytes spell are those bytes.
use Rattle.std.proofs.Common.{◌≡◌, ℕ, zero, suc, ◌+◌, ◌*◌, ◌/◌, ◌%◌, ◌^◌, ◌<◌, ◌≤◌, List, [], ◌∷◌, length, get_or, take, refl, sym, ap, ◌∙◌, arith}
use Rattle.std.proofs.Math.Nat.{div-one, div-eq_of_lt, mod-eq_of_lt, mul_assoc, mul-add-div_right, mul-add-mod_self_right, one-le-pow, pow-succ'}
use Rattle.std.specs.Int.{byte_at}
use Rattle.byteorder.specs.Endian.{big_number, big_bytes}
use Rattle.byteorder.specs.Numbers.{big_from-cons, big_from-lt}

byte_at-pow : (k x : ℕ) → byte_at k x ≡ x / 256 ^ k % 256
byte_at-pow zero x = ap (λ (y : ℕ). y % 256) (sym (div-one x))
byte_at-pow (suc k) x = refl

pow_pos256 : (n : ℕ) → zero < 256 ^ n
pow_pos256 n = let h = one-le-pow n 256 (omega arith) in omega arith

-- bytes read nothing from above them
low : (k q r : ℕ) → big_bytes k (q * 256 ^ k + r) ≡ big_bytes k r
low zero q r = refl
low (suc k) q r =
    let e : q * 256 ^ suc k + r ≡ q * 256 * 256 ^ k + r = ap (λ (x : ℕ). q * x + r) (pow-succ' 256 k) ∙ ap (λ (x : ℕ). x + r) (sym (mul_assoc q 256 (256 ^ k))) in
    let byte : byte_at k (q * 256 * 256 ^ k + r) ≡ byte_at k r =
    byte_at-pow k (q * 256 * 256 ^ k + r) ∙ ap (λ (y : ℕ). y % 256) (mul-add-div_right (pow_pos256 k) (q * 256) r) ∙ mul-add-mod_self_right q 256 (r / 256 ^ k) ∙ sym (byte_at-pow k r) in
    ap (big_bytes (suc k)) e ∙ ap (λ (b : ℕ). b ∷ big_bytes k (q * 256 * 256 ^ k + r)) byte ∙ ap (λ (t : List ℕ). byte_at k r ∷ t) (low k (q * 256) r)

pub big_back : (n : ℕ) (xs : List ℕ) → n ≤ length xs → ((i : ℕ) → get_or xs i 0 < 256) → big_bytes n (big_number n xs) ≡ take n xs
big_back zero xs le h = refl
big_back (suc n) [] le h = absurd (omega arith)
big_back (suc n) (a ∷ xs) le h =
    let small : a < 256 = h 0 in
    let others = λ (i : ℕ). h (suc i) in
    let r : ℕ = big_number n xs in
    let below : r < 256 ^ n = big_from-lt 0 n xs others in
    let number : big_number (suc n) (a ∷ xs) ≡ a * 256 ^ n + r = ap (λ (x : ℕ). a * 256 ^ n + x) (big_from-cons 0 n a xs) in
    let byte : byte_at n (a * 256 ^ n + r) ≡ a =
    byte_at-pow n (a * 256 ^ n + r) ∙ ap (λ (y : ℕ). y % 256) (mul-add-div_right (pow_pos256 n) a r ∙ ap (λ (y : ℕ). a + y) (div-eq_of_lt below)) ∙ mod-eq_of_lt (omega arith) ∙ omega arith in
    ap (big_bytes (suc n)) number ∙ ap (λ (b : ℕ). b ∷ big_bytes n (a * 256 ^ n + r)) byte ∙ ap (λ (t : List ℕ). a ∷ t) (low n a r ∙ big_back n xs (omega arith) others)
