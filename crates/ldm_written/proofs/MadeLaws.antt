-- The carried bytes of a new header are those of a header with its values.
use Rattle.std.proofs.Common.{◌≡◌, ◌≢◌, inl, inr, ⊎_elim, ℕ, zero, suc, subst, ◌+◌, ◌-◌, ◌^◌, ◌<◌, ◌≤◌, ◌==◌, true, false, List, ◌++◌, length, get_or, take, drop, replicate, slice_range, Some, refl, sym, ◌∙◌, ap, arith}
use Rattle.std.specs.Prelude.{codes}
use Rattle.std.specs.List.{All, AllByRecursion, before_first, position_or_len}
use Rattle.std.proofs.lemmas.Bool.{ne_eqb, eq-eqb, cases_lt}
use Rattle.std.proofs.lemmas.List.{take_at, take-take, length-take, length-drop, length-append, get_or-drop, get_or-take, get_or_append_left, get_or-append_right, get_or-replicate, get_or_past, length-replicate}
use Rattle.std.proofs.lemmas.List.Elements.{All-append, All-from_recursion}
use Rattle.std.proofs.lemmas.Str.Ascii.{All-from_ascii}
use Rattle.uuid.specs.Text.{hyphenated_text, lower}
use Rattle.uuid.proofs.TextLemmas.{hyphenated_ascii}
use Rattle.std.proofs.lemmas.List.Sums.{position_or_len_is}
use Rattle.std.proofs.lemmas.Grind.{same_number_lists}
use Rattle.byteorder.specs.Endian.{big_bytes}
use Rattle.ldm_bytes.specs.Numbers.{IsBytes}
use Rattle.ldm_bytes.specs.Places.{put, put_each}
use Rattle.ldm_bytes.specs.Guid.{guid_of, own_guid}
use Rattle.ldm_bytes.proofs.GuidLaws.{guid_again, own_guid-len}
use Rattle.ldm_bytes.proofs.ByteLaws.{bytes_put}
use Rattle.ldm_bytes.proofs.PlaceLaws.{length-put, get_or-put_outside, drop-put, same_range}
use Rattle.ldm_vmdb.specs.Sectors.{has_vmdb_magic, has_vmdb_version, has_block_size, has_first_block, is_settled, group_guid, group_name, carried, is_vmdb, IsKeptHeader}
use Rattle.ldm_written.specs.Made.{new_raw}
use Rattle.ldm_vmdb.proofs.HeaderLaws.{Changing, length-carried, carried_lasting, carried_changing, changing_or_lasting}

-- ---- the fields in front of the name

front_fields : List ℕ
front_fields = codes "VMDB" ++ (replicate 4 0 ++ (big_bytes 4 128 ++ (big_bytes 4 512 ++ (big_bytes 2 1 ++ (big_bytes 2 4 ++ big_bytes 2 10)))))

front : List ℕ
front = front_fields ++ replicate 490 0

length-front : length front ≡ 512
unfolding front front_fields
length-front = refl

front_zero : (k : ℕ) → 22 ≤ k → get_or front k 0 ≡ 0
unfolding front front_fields
front_zero k le = ⊎_elim
    (λ lt. get_or-append_right front_fields (replicate 490 0) 22 k 0 refl le ∙ get_or-replicate {A = ℕ} 490 (k - 22) 0 0 lt)
    (λ ge. get_or_past (front_fields ++ replicate 490 0) k 0 (omega arith))
    (cases_lt (k - 22) 490)

front_low : (k : ℕ) → 4 ≤ k → k < 8 → get_or front k 0 ≡ 0
unfolding front front_fields
front_low k from to =
    let rest : List ℕ = replicate 4 0 ++ (big_bytes 4 128 ++ (big_bytes 4 512 ++ (big_bytes 2 1 ++ (big_bytes 2 4 ++ big_bytes 2 10)))) in
    get_or_append_left front_fields (replicate 490 0) 0 k (omega arith)
    ∙ get_or-append_right (codes "VMDB") rest 4 k 0 refl from
    ∙ get_or_append_left (replicate 4 0) (big_bytes 4 128 ++ (big_bytes 4 512 ++ (big_bytes 2 1 ++ (big_bytes 2 4 ++ big_bytes 2 10)))) 0 (k - 4) (omega arith)
    ∙ get_or-replicate {A = ℕ} 4 (k - 4) 0 0 (omega arith)

-- the name behind them
named : List ℕ → List ℕ
named name = put front 0x16 name

raw_is : (name : List ℕ) (guid : ℕ) → new_raw name guid ≡ put (named name) 0x35 (own_guid guid)
unfolding new_raw put_each named front front_fields
raw_is name guid = refl

-- ---- bytes

bytes_of : (xs : List ℕ) → All (λ b. b < 256) xs → IsBytes xs
bytes_of xs small k = elim (cases_lt k (length xs)) [
  | inl lt ↦ small k 0 lt
  | inr ge ↦ rw (get_or_past xs k 0 ge) (omega arith)
]

number_small : (n x : ℕ) → All (λ b. b < 256) (big_bytes n x)
number_small n x = All-from_recursion (λ b. b < 256) (big_bytes n x) (small n)
  where
    small : (n : ℕ) → AllByRecursion (λ b. b < 256) (big_bytes n x)
    small zero = tt
    small (suc zero) = (omega arith, tt)
    small (suc (suc n)) = (omega arith, small (suc n))

fields_small : All (λ b. b < 256) front_fields
unfolding front_fields
fields_small =
    All-append small (codes "VMDB") (replicate 4 0 ++ (big_bytes 4 128 ++ (big_bytes 4 512 ++ (big_bytes 2 1 ++ (big_bytes 2 4 ++ big_bytes 2 10)))))
    (All-from_recursion small (codes "VMDB") (omega arith, (omega arith, (omega arith, (omega arith, tt)))))
    (All-append small (replicate 4 0) (big_bytes 4 128 ++ (big_bytes 4 512 ++ (big_bytes 2 1 ++ (big_bytes 2 4 ++ big_bytes 2 10)))) (All-from_recursion small (replicate 4 0) (omega arith, (omega arith, (omega arith, (omega arith, tt)))))
    (All-append small (big_bytes 4 128) (big_bytes 4 512 ++ (big_bytes 2 1 ++ (big_bytes 2 4 ++ big_bytes 2 10))) (number_small 4 128)
    (All-append small (big_bytes 4 512) (big_bytes 2 1 ++ (big_bytes 2 4 ++ big_bytes 2 10)) (number_small 4 512)
    (All-append small (big_bytes 2 1) (big_bytes 2 4 ++ big_bytes 2 10) (number_small 2 1)
    (All-append small (big_bytes 2 4) (big_bytes 2 10) (number_small 2 4) (number_small 2 10))))))
  where
    small : ℕ → Type 0
    small b = b < 256

front_bytes : IsBytes front
unfolding front
front_bytes =
    bytes_of (front_fields ++ replicate 490 0) (All-append (λ b. b < 256) front_fields (replicate 490 0) fields_small (zeros_small 490))
  where
    zeros_small : (n : ℕ) → All (λ b. b < 256) (replicate n 0)
    zeros_small n k d lt = rw (get_or-replicate {A = ℕ} n k 0 d (omega (arith, length-replicate {A = ℕ} n 0))) (omega arith)

text_bytes : (guid : ℕ) → IsBytes (own_guid guid)
unfolding own_guid
text_bytes guid =
    let ascii = All-from_ascii (hyphenated_text lower (big_bytes 16 guid)) (hyphenated_ascii lower (big_bytes 16 guid) (inl refl)) in
    bytes_of (hyphenated_text lower (big_bytes 16 guid)) (λ k d lt. omega (arith, ascii k d lt))

pub new_vmdb : (name : List ℕ) (guid : ℕ) → is_vmdb (new_raw name guid) ≡ true
unfolding new_raw put_each is_vmdb has_vmdb_magic has_vmdb_version has_block_size has_first_block is_settled
new_vmdb name guid = refl

-- a name without a zero byte, and what stands in its field up to a zero byte
until_zero : (name rest : List ℕ) → All (λ byte. byte ≢ 0) name → length name ≤ 30 → 1 ≤ length rest → get_or rest 0 0 ≡ 0 → before_first (λ byte. byte == 0) (take 31 (name ++ rest)) ≡ name
until_zero name rest without few some none =
    let field : List ℕ = take 31 (name ++ rest) in
    let within : length name < length field = omega (arith, length-take 31 (name ++ rest), length-append name rest) in
    let before : (k : ℕ) → k < length name → (get_or field k 0 == 0) ≡ false =
    λ k lt. ne_eqb _ _ (λ e. without k 0 lt (sym (get_or-take 31 (name ++ rest) k 0 (omega arith) ∙ get_or_append_left name rest 0 k lt) ∙ e)) in
    let here : (get_or field (length name) 0 == 0) ≡ true =
    eq-eqb _ _ (get_or-take 31 (name ++ rest) (length name) 0 (omega arith) ∙ get_or-append_right name rest (length name) (length name) 0 refl (omega arith)
    ∙ ap (λ (j : ℕ). get_or rest j 0) (omega arith) ∙ none) in
    let at : position_or_len (λ byte. byte == 0) field ≡ length name = position_or_len_is (λ byte. byte == 0) field (length name) 0 (omega arith) before (λ _. here) in
    ap (λ (n : ℕ). take n field) at ∙ take-take (length name) 31 (name ++ rest) (omega arith) ∙ take_at name rest (length name) refl

module _ (name : List ℕ) (guid : ℕ) (few : length name ≤ 30) where
  abbrev raw : List ℕ
  raw = new_raw name guid

  abbrev text : List ℕ
  text = own_guid guid

  name_fits : 0x16 + length name ≤ length front
  name_fits = omega (arith, few, length-front)

  length-named : length (named name) ≡ 512
  unfolding named
  length-named = length-put front 0x16 name name_fits ∙ length-front

  text_fits : 0x35 + length text ≤ length (named name)
  text_fits = omega (arith, own_guid-len guid, length-named)

  pub new_len : length raw ≡ 512
  new_len = ap length (raw_is name guid) ∙ length-put (named name) 0x35 text text_fits ∙ length-named

  -- zeros stand behind the GUID's text
  zero_behind : (k : ℕ) → 0x59 ≤ k → get_or raw k 0 ≡ 0
  unfolding named
  zero_behind k le =
      ap (λ (l : List ℕ). get_or l k 0) (raw_is name guid)
      ∙ get_or-put_outside (named name) 0x35 text k text_fits (inr (omega (arith, le, own_guid-len guid)))
      ∙ get_or-put_outside front 0x16 name k name_fits (inr (omega (arith, le, few)))
      ∙ front_zero k (omega arith)

  -- zeros stand in front of the sizes, where the last VBLK sequence is
  zero_last : (k : ℕ) → 4 ≤ k → k < 8 → get_or raw k 0 ≡ 0
  unfolding named
  zero_last k from to =
      ap (λ (l : List ℕ). get_or l k 0) (raw_is name guid)
      ∙ get_or-put_outside (named name) 0x35 text k text_fits (inl (omega arith))
      ∙ get_or-put_outside front 0x16 name k name_fits (inl (omega arith))
      ∙ front_low k from to

  zero_there : (k : ℕ) → Changing k → get_or raw k 0 ≡ 0
  zero_there k (inl at) = zero_last k at.0 at.1
  zero_there k (inr (inl at)) = zero_behind k (omega (arith, at.0))
  zero_there k (inr (inr at)) = zero_behind k (omega (arith, at.0))

  pub new_carried : carried raw ≡ raw
  new_carried =
      same_number_lists (carried raw) raw (length-carried raw new_len ∙ sym new_len)
      (λ k lt. ⊎_elim
      (λ at. carried_changing raw k new_len at ∙ sym (zero_there k at))
      (λ at. carried_lasting raw k new_len at)
      (changing_or_lasting k))

  pub new_guid : guid < 2 ^ 128 → group_guid raw ≡ Some guid
  unfolding group_guid
  new_guid lt =
      ap (λ (l : List ℕ). guid_of (slice_range l 0x35 0x59)) (raw_is name guid)
      ∙ ap (λ (l : List ℕ). guid_of (take 36 l)) (drop-put (named name) 0x35 text text_fits)
      ∙ ap guid_of (take_at text (drop (0x35 + length text) (named name)) 36 (own_guid-len guid))
      ∙ guid_again guid lt

  pub new_name : All (λ byte. byte ≢ 0) name → group_name raw ≡ name
  unfolding group_name named
  new_name without =
      let rest : List ℕ = drop (0x16 + length name) front in
      let field : slice_range raw 0x16 0x35 ≡ slice_range (named name) 0x16 0x35 =
      same_range raw (named name) 0x16 0x35 (new_len ∙ sym length-named)
      (λ k from to. ap (λ (l : List ℕ). get_or l k 0) (raw_is name guid) ∙ get_or-put_outside (named name) 0x35 text k text_fits (inl to)) in
      ap (before_first (λ byte. byte == 0)) field
      ∙ ap (λ (l : List ℕ). before_first (λ byte. byte == 0) (take 31 l)) (drop-put front 0x16 name name_fits)
      ∙ until_zero name rest without few (omega (arith, length-drop (0x16 + length name) front, length-front))
      (get_or-drop (0x16 + length name) front 0 0 ∙ front_zero (0x16 + length name + 0) (omega arith))

  pub new_bytes : IsBytes name → IsBytes raw
  unfolding named
  new_bytes bytes =
      subst IsBytes (sym (raw_is name guid))
      (bytes_put (named name) text 0x35 text_fits (bytes_put front name 0x16 name_fits front_bytes bytes) (text_bytes guid))

  pub new_kept : All (λ byte. byte ≢ 0) name → guid < 2 ^ 128 → IsBytes name → IsKeptHeader name guid raw
  new_kept without small bytes = record {
    size = new_len;
    bytes = new_bytes bytes;
    is_header = new_vmdb name guid;
    name_is = sym (new_name without);
    guid_is = new_guid small;
    is_carried = new_carried;
  }
