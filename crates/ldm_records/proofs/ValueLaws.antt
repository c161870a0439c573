-- The length of the own spelling of fields.
use Rattle.std.proofs.Common.{◌≡◌, List, [], ◌∷◌, length, refl, arith}
use Rattle.std.proofs.lemmas.List.{length-append}
use Rattle.byteorder.specs.Numbers.{length-bytes_high_first}
use Rattle.ldm_bytes.proofs.GuidLaws.{own_guid-len}
use Rattle.ldm_records.specs.Values.{Value, Fixed, Wide, GuidText, Number, Text, Absent, own_value, own_values, value_len, values_len}

own_value-len : (x : Value) → length (own_value x) ≡ value_len x
own_value-len (Fixed bytes) = refl
own_value-len (Wide n v) = length-bytes_high_first n v
own_value-len (Number v) = refl
own_value-len (Text t) = omega arith
own_value-len (GuidText v) = omega (arith, own_guid-len v)
own_value-len Absent = refl

pub own_values-len : (xs : List Value) → length (own_values xs) ≡ values_len xs
own_values-len [] = refl
own_values-len (x ∷ xs) = omega (arith, length-append (own_value x) (own_values xs), own_value-len x, own_values-len xs)
