-- Reading, step by step: the value at the front of the bytes, and the bytes after it. The contracts of the
-- readers below `read_record` cite this; its own contract does not.
use Rattle.std.specs.Prelude.{ℕ, ◌+◌, ◌^◌, true, false, List, [], ◌∷◌, length, take, drop, Option, Some, None, nat_lt, nat_le, slice_index, if◌then◌else◌}
use Rattle.byteorder.specs.Endian.{big_number}
use Rattle.ldm_bytes.specs.Guid.{guid_of}
use Rattle.ldm_bytes.specs.Numbers.{number_at, text_at}
use Rattle.ldm_records.specs.Values.{Value, Fixed, Wide, GuidText, Number, Text, Absent, FieldKind, FixedKind, WideKind, GuidKind, NumberKind, TextKind, When}
use Rattle.ldm_records.specs.Table.{kinds_of}
use Rattle.ldm_records.specs.Plain.{Plain, made, body_len}

infixl 10 ◌>>=◌
abbrev pub ◌>>=◌ : {A B : Type 0} → Option A → (A → Option B) → Option B
(Some x) >>= f = f x
None >>= f = None

unfoldable pub read_value : FieldKind → List ℕ → Option (Value × List ℕ)
read_value (FixedKind n) bytes = if nat_lt (length bytes) n then None else Some (Fixed (take n bytes), drop n bytes)
read_value (WideKind n) bytes = if nat_lt (length bytes) n then None else Some (Wide n (big_number n bytes), drop n bytes)
read_value GuidKind bytes = text_at bytes >>= λ x. guid_of x.0 >>= λ v. Some (GuidText v, x.1)
read_value NumberKind bytes = number_at bytes >>= λ x. Some (Number x.0, x.1)
read_value TextKind bytes = text_at bytes >>= λ x. Some (Text x.0, x.1)
read_value (When true k) bytes = read_value k bytes
read_value (When false k) bytes = Some (Absent, bytes)

unfoldable pub read_values : List FieldKind → List ℕ → Option (List Value × List ℕ)
read_values [] bytes = Some ([], bytes)
read_values (k ∷ ks) bytes = read_value k bytes >>= λ x. read_values ks x.1 >>= λ xs. Some (x.0 ∷ xs.0, xs.1)

-- the own spelling has to have room, and a length of four bytes
abbrev pub with_room : ℕ → Plain → Option Plain
with_room room p =
    if nat_lt room (8 + body_len p) then None
    else if nat_le (2 ^ 32) (body_len p) then None
    else Some p

unfoldable pub fields_at : ℕ → ℕ → ℕ → List FieldKind → ℕ → List ℕ → Option Plain
fields_at mark flags type kinds room body = read_values kinds body >>= λ x. with_room room (made mark flags type x)

-- the fields of a type
unfoldable pub typed_at : ℕ → ℕ → ℕ → ℕ → List ℕ → Option Plain
typed_at mark flags type room body = kinds_of type flags >>= λ kinds. fields_at mark flags type kinds room body

-- the record of a whole payload
unfoldable pub plain_at : List ℕ → Option Plain
plain_at payload =
    if nat_lt (length payload) 8 then None
    else if nat_lt (length payload) (8 + big_number 4 (drop 4 payload)) then None
    else typed_at (big_number 2 payload) (slice_index payload 2) (slice_index payload 3) (length payload) (take (big_number 4 (drop 4 payload)) (drop 8 payload))
