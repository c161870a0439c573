-- A record as plain values, and what spells it. A payload is, at its plain offsets: 0 the mark, two bytes;
-- 2 the flags; 3 the type; 4 the length L, four bytes; 8 the fields and the tail, which have L bytes
-- together; 8 + L any filling, which is no part of the record.
use Rattle.std.specs.Prelude.{◌≡◌, ℕ, ◌+◌, ◌^◌, ◌<◌, ◌≤◌, List, ◌∷◌, ◌++◌, length, Some}
use Rattle.byteorder.specs.Endian.{big_bytes}
use Rattle.ldm_records.specs.Values.{Value, FieldKind, HasKinds, SpellsValues, own_values, values_len}
use Rattle.ldm_records.specs.Table.{kinds_of}

pub record Plain : Type 0 where
  pub mark : ℕ
  pub flags : ℕ
  pub type : ℕ
  pub fields : List Value
  pub tail : List ℕ

-- a head's mark, flags and type, and fields and a tail
abbrev pub made : ℕ → ℕ → ℕ → List Value × List ℕ → Plain
made mark flags type x = record { mark = mark; flags = flags; type = type; fields = x.0; tail = x.1 }

-- mark, flags, type and length
abbrev pub head_bytes : Plain → ℕ → List ℕ
head_bytes p len = big_bytes 2 p.mark ++ p.flags ∷ p.type ∷ big_bytes 4 len

abbrev pub own_body : Plain → List ℕ
own_body p = own_values p.fields ++ p.tail

-- the spelling that is written: each field's own, the tail, and no filling
abbrev pub own_spelling : Plain → List ℕ
own_spelling p = head_bytes p (length (own_body p)) ++ own_body p

-- the length of the own spelling's body
abbrev pub body_len : Plain → ℕ
body_len p = values_len p.fields + length p.tail

-- the fields are those of the type, each optional one exactly where its flag is set, and the own
-- spelling's length fits its four bytes
pub record IsRecord (p : Plain) : Type 0 where
  pub mark : p.mark < 2 ^ 16
  pub kinds : List FieldKind
  pub known : kinds_of p.type p.flags ≡ Some kinds
  pub fields : HasKinds kinds p.fields
  pub short : length (own_body p) < 2 ^ 32

-- the payload spells the record: head, fields, tail, and any filling; and there is room for the own spelling,
-- which is longer only where a zero is spelled without a byte and there is no filling to spare
pub record Spells (p : Plain) (payload : List ℕ) : Type 0 where
  pub sound : IsRecord p
  pub text : List ℕ
  pub filling : List ℕ
  pub spelled : SpellsValues p.fields text
  pub whole : payload ≡ head_bytes p (length (text ++ p.tail)) ++ (text ++ p.tail) ++ filling
  pub short : length (text ++ p.tail) < 2 ^ 32
  pub room : length (own_spelling p) ≤ length payload
