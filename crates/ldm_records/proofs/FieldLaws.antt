-- One field more.
use Rattle.std.proofs.Common.{◌≡◌, ℕ, zero, suc, ◌+◌, ◌<◌, ◌≤◌, List, [], ◌∷◌, ◌++◌, length, get_or, take, ap, ◌∙◌, arith}
use Rattle.std.proofs.lemmas.List.{map_more, take-map}
use Rattle.ldm_records.specs.declared.field.Field.{Field}
use Rattle.ldm_records.specs.Values.{Value, value_len, values_len}
use Rattle.ldm_records.specs.FieldViews.{value_of, values_of}
use Rattle.ldm_records.specs.declared.field.Field.TheVariants as fields

-- what a proof about a loop names for a field past the end
abbrev pub no_field : Field
no_field = fields.Fixed record { ref_ptr = (0, 0); now = [] }

values_len-push : (ps : List Value) (p : Value) → values_len (ps ++ p ∷ []) ≡ values_len ps + value_len p
values_len-push [] p = omega arith
values_len-push (q ∷ ps) p = omega (arith, values_len-push ps p)

values_len-take : (i : ℕ) (ps : List Value) → values_len (take i ps) ≤ values_len ps
values_len-take zero ps = omega arith
values_len-take (suc i) [] = omega arith
values_len-take (suc i) (p ∷ ps) = omega (arith, values_len-take i ps)

pub len_more : (fs : List Field) (i : ℕ) (d : Field) → i < length fs
    → (values_len (values_of (take (i + 1) fs)) ≡ values_len (values_of (take i fs)) + value_len (value_of (get_or fs i d))) × (values_len (values_of (take (i + 1) fs)) ≤ values_len (values_of fs))
len_more fs i d lt = (
  ap values_len (map_more value_of fs i d lt) ∙ values_len-push (values_of (take i fs)) (value_of (get_or fs i d)),
  let e : values_len (take (i + 1) (values_of fs)) ≡ values_len (values_of (take (i + 1) fs)) = ap values_len (take-map value_of (i + 1) fs) in
      omega (arith, values_len-take (i + 1) (values_of fs)),
)
