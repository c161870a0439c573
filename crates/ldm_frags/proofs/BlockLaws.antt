-- The fields of a block that is written are those that it is written with.
use Rattle.std.proofs.Common.{◌≡◌, ℕ, ◌+◌, ◌-◌, ◌*◌, ◌^◌, ◌<◌, ◌≤◌, true, List, ◌++◌, take, drop, sym, ap, subst, ◌∙◌, arith, eq-eqb, suc, length}
use Rattle.std.proofs.Math.Nat.{mod-eq_of_lt}
use Rattle.std.proofs.lemmas.List.{drop-drop, drop-take}
use Rattle.byteorder.specs.Endian.{big_number, big_bytes}
use Rattle.byteorder.specs.Numbers.{big_from-take, big_from-bytes}
use Rattle.ldm_frags.specs.Blocks.{has_magic, group, part, parts, payload, written_block, block_at}

-- what the head and the payload of block k say
pub record HasFields (blocks : List ℕ) (k g p n : ℕ) (bytes : List ℕ) : Type 0 where
  pub magic : has_magic blocks k ≡ true
  pub group : group blocks k ≡ g
  pub part : part blocks k ≡ p
  pub parts : parts blocks k ≡ n
  pub payload : payload blocks k ≡ bytes

-- a number within a block reads the block alone
pub number_within : (m o a : ℕ) (xs : List ℕ) → o + m ≤ 128 → big_number m (drop (a + o) xs) ≡ big_number m (drop o (take 128 (drop a xs)))
number_within m o a xs le =
    let split : 128 ≡ o + (128 - o) = omega arith in
    let cut : drop o (take 128 (drop a xs)) ≡ take (128 - o) (drop o (drop a xs)) = ap (λ (t : ℕ). drop o (take t (drop a xs))) split ∙ drop-take o (128 - o) (drop a xs) in
    let whole : drop o (drop a xs) ≡ drop (a + o) xs = drop-drop o a xs in
    sym (ap (big_number m) (cut ∙ ap (take (128 - o)) whole) ∙ big_from-take 0 m (128 - o) (drop (a + o) xs) (omega arith))

written_number : (m v : ℕ) (rest : List ℕ) → v < 256 ^ m → big_number m (big_bytes m v ++ rest) ≡ v
written_number m v rest lt = big_from-bytes m v rest ∙ mod-eq_of_lt lt

-- the payload lies within the block
pub payload_within : (blocks : List ℕ) (k : ℕ) → payload blocks k ≡ drop 16 (take 128 (drop (128 * k) blocks))
payload_within blocks k =
    let span : 128 * k + 128 - (128 * k + 16) ≡ 112 = omega arith in
    ap (λ (m : ℕ). take m (drop (128 * k + 16) blocks)) span ∙ ap (take 112) (sym (drop-drop 16 (128 * k) blocks)) ∙ sym (drop-take 16 112 (drop (128 * k) blocks))

pub fields_of : (blocks : List ℕ) (k number sequence g p n : ℕ) (bytes : List ℕ) → number ≡ k + 4 → block_at blocks number ≡ written_block sequence g p n bytes → g < 256 ^ 4 → p < 256 ^ 2 → n < 256 ^ 2 → HasFields blocks k g p n bytes
unfolding written_block
fields_of blocks k number sequence g p n bytes e block small-g small-p small-n =
    let at : 128 * (number - 4) ≡ 128 * k = omega arith in
    let here : take 128 (drop (128 * k) blocks) ≡ written_block sequence g p n bytes = subst (λ (a : ℕ). take 128 (drop a blocks) ≡ written_block sequence g p n bytes) at block in
    let head : drop (128 * k + 0) blocks ≡ drop (128 * k) blocks = ap (λ (a : ℕ). drop a blocks) (omega arith) in
    record {
      magic = eq-eqb _ _ (ap (big_number 4) (sym head) ∙ number_within 4 0 (128 * k) blocks (omega arith) ∙ ap (λ (b : List ℕ). big_number 4 b) here);
      group = number_within 4 8 (128 * k) blocks (omega arith) ∙ ap (λ (b : List ℕ). big_number 4 (drop 8 b)) here ∙ written_number 4 g (big_bytes 2 p ++ big_bytes 2 n ++ bytes) small-g;
      part = number_within 2 12 (128 * k) blocks (omega arith) ∙ ap (λ (b : List ℕ). big_number 2 (drop 12 b)) here ∙ written_number 2 p (big_bytes 2 n ++ bytes) small-p;
      parts = number_within 2 14 (128 * k) blocks (omega arith) ∙ ap (λ (b : List ℕ). big_number 2 (drop 14 b)) here ∙ written_number 2 n bytes small-n;
      payload = payload_within blocks k ∙ ap (drop 16) here;
    }

pub written_length : (number group part parts : ℕ) (bytes : List ℕ) → length bytes ≡ 112 → length (written_block number group part parts bytes) ≡ 128
unfolding written_block
written_length number group part parts bytes e = ap (λ (n : ℕ). suc (suc (suc (suc (suc (suc (suc (suc (suc (suc (suc (suc (suc (suc (suc (suc n)))))))))))))))) e
