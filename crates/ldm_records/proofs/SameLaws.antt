-- Lists of fields differ where one field does, and records are the same where what is listed of them is.
use Rattle.std.proofs.Common.{◌≡◌, ◌↔◌, ℕ, ◌<◌, Bool, false, IsTrue, List, length, get_or, sym, ap, ◌∙◌, arith}
use Rattle.std.proofs.lemmas.List.{get_or-map}
use Rattle.ldm_records.specs.declared.field.Field.{Field}
use Rattle.ldm_records.specs.declared.types.Record.{Record}
use Rattle.ldm_records.specs.Values.{Value, Absent}
use Rattle.ldm_records.specs.FieldViews.{value_of, values_of}
use Rattle.ldm_records.specs.Plain.{Plain, IsRecord}
use Rattle.ldm_records.specs.Outlines.{filled_plain}
use Rattle.ldm_records.specs.Views.{plain_of}
use Rattle.ldm_records.proofs.OneRecord.{one_record}
use Rattle.ldm_records.proofs.OutlineLaws.{one_filled}

-- lists of fields with one that differs differ
pub differ_at : (fs gs : List Field) (i : ℕ) (d : Field) → i < length fs → length fs ≡ length gs
    → (value_of (get_or fs i d) ≡ value_of (get_or gs i d) → IsTrue false) → values_of fs ≡ values_of gs → IsTrue false
differ_at fs gs i d lt len differ e =
    let below : i < length gs = omega arith in
    differ (sym (get_or-map value_of fs i d Absent lt) ∙ ap (λ (xs : List Value). get_or xs i Absent) e ∙ get_or-map value_of gs i d Absent below)

pub same_record : (b : Bool) (r s : Record) (p q : Plain) → p ≡ filled_plain (plain_of r) → q ≡ filled_plain (plain_of s)
    → IsRecord (plain_of r) → IsRecord (plain_of s) → (IsTrue b ↔ (p ≡ q)) → IsTrue b ↔ (r ≡ s)
same_record b r s p q p-is q-is r-sound s-sound h = (
  (λ e. one_record r s (one_filled (plain_of r) (plain_of s) r-sound s-sound (sym p-is ∙ h.0 e ∙ q-is))),
  (λ e. h.1 (p-is ∙ ap (λ (x : Record). filled_plain (plain_of x)) e ∙ sym q-is)),
)
