-- What a whole payload is answered.
use Rattle.std.proofs.Common.{◌≡◌, ℕ, ◌+◌, ◌≤◌, Bool, true, false, cond, eqb, ltb, List, length, slice_index, take, drop, Option, None, Result, Ok, Err, refl, sym, ap, subst, ◌∙◌, arith}
use Rattle.std.specs.Prelude.{IfOk, ◌||◌}
use Rattle.std.proofs.lemmas.Bool.{le-ltb}
use Rattle.byteorder.specs.Endian.{big_number}
use Rattle.ldm_records.specs.declared.types.Record.{Record}
use Rattle.ldm_payloads.specs.declared.fault.RecordError.{RecordError}
use Rattle.ldm_payloads.specs.declared.fault.RecordError.TheVariants as errors
use Rattle.ldm_payloads.specs.declared.fault.RecordFault.TheVariants as faults
use Rattle.ldm_bytes.specs.Numbers.{IsBytes}
use Rattle.ldm_bytes.proofs.NumberLaws.{some_is}
use Rattle.ldm_records.specs.Values.{FieldKind}
use Rattle.ldm_records.specs.Table.{is_known, kinds_of}
use Rattle.ldm_records.specs.Plain.{Plain, Spells}
use Rattle.ldm_payloads.specs.Steps.{typed_at, plain_at}
use Rattle.ldm_payloads.specs.Whole.{GivesTyped, GivesWhole}
use Rattle.ldm_payloads.specs.Answers.{IsUnknown, AnswersRecord, AnswersFault}
use Rattle.ldm_records.specs.Views.{plain_of}
use Rattle.ldm_payloads.proofs.PlainReads.{plain_takes, plain_again}
use Rattle.ldm_records.proofs.OneRecord.{one_record}

-- a type byte that is none of these has no fields
known_step : (a b : Bool) (x y : Option (List FieldKind)) → (a || b) ≡ false → (b ≡ false → y ≡ None) → cond a x y ≡ None
known_step true b x y e h = absurd cc
known_step false b x y e h = h e

known_last : (a : Bool) (x : Option (List FieldKind)) → a ≡ false → cond a x None ≡ None
known_last true x e = absurd cc
known_last false x e = refl

unknown_kinds : (type flags : ℕ) → is_known type ≡ false → kinds_of type flags ≡ None
unknown_kinds type flags e =
    known_step (eqb type 0x51) _ _ _ e (λ e. known_step (eqb type 0x32) _ _ _ e (λ e. known_step (eqb type 0x33) _ _ _ e (λ e. known_step (eqb type 0x34) _ _ _ e
    (λ e. known_step (eqb type 0x44) _ _ _ e (λ e. known_step (eqb type 0x35) _ _ _ e (λ e. known_last (eqb type 0x45) _ e))))))

long_payload : (payload : List ℕ) → 8 ≤ length payload
    → plain_at payload ≡ cond (ltb (length payload) (8 + big_number 4 (drop 4 payload))) None (typed_at (big_number 2 payload) (slice_index payload 2) (slice_index payload 3) (length payload) (take (big_number 4 (drop 4 payload)) (drop 8 payload)))
unfolding plain_at
long_payload payload long = let e : ltb (length payload) 8 ≡ false = le-ltb _ _ long in rw e refl

either_none : (b : Bool) (x : Option Plain) → x ≡ None → cond b None x ≡ None
either_none true x e = refl
either_none false x e = e

unknown_none : (payload : List ℕ) → 8 ≤ length payload → is_known (slice_index payload 3) ≡ false → plain_at payload ≡ None
unfolding typed_at
unknown_none payload long e =
    long_payload payload long ∙ either_none (ltb (length payload) (8 + big_number 4 (drop 4 payload))) _ (rw (unknown_kinds (slice_index payload 3) (slice_index payload 2) e) refl)

answers_so : (payload : List ℕ) (r : Result Record RecordError) (read : Option Plain) → 8 ≤ length payload → GivesTyped (slice_index payload 3) r read → GivesWhole payload r read
answers_so payload (Ok r) read long a = a
answers_so payload (Err errors.NoMemory) read long a = tt
answers_so payload (Err (errors.Fault faults.Malformed)) read long a = (a.0, λ _. a.1)
answers_so payload (Err (errors.Fault (faults.UnknownType t))) read long a = (long, a.0, subst (λ (x : ℕ). is_known x ≡ false) (sym a.0) a.1)

pub whole_answers : (payload body : List ℕ) (mark len : ℕ) (r : Result Record RecordError) → 8 ≤ length payload → 8 + len ≤ length payload
    → mark ≡ big_number 2 payload → len ≡ big_number 4 (drop 4 payload) → body ≡ take len (drop 8 payload)
    → GivesTyped (slice_index payload 3) r (typed_at mark (slice_index payload 2) (slice_index payload 3) (length payload) body) → GivesWhole payload r (plain_at payload)
whole_answers payload body mark len r long whole mark-is len-is body-is a =
    let fits : ltb (length payload) (8 + big_number 4 (drop 4 payload)) ≡ false = le-ltb _ _ (omega arith) in
    let read-is : typed_at mark (slice_index payload 2) (slice_index payload 3) (length payload) body ≡ plain_at payload =
    ap (λ (m : ℕ). typed_at m (slice_index payload 2) (slice_index payload 3) (length payload) body) mark-is
    ∙ ap (λ (b : List ℕ). typed_at (big_number 2 payload) (slice_index payload 2) (slice_index payload 3) (length payload) b) (body-is ∙ ap (λ (k : ℕ). take k (drop 8 payload)) len-is)
    ∙ sym (long_payload payload long ∙ rw fits refl) in
    subst (λ (x : Option Plain). GivesWhole payload r x) read-is (answers_so payload r _ long a)

pub is_found : (payload : List ℕ) (r : Result Record RecordError) → IsBytes payload → GivesWhole payload r (plain_at payload) → IfOk r (λ r. Spells (plain_of r) payload)
is_found payload (Ok r) h a = plain_takes payload (plain_of r) h a
is_found payload (Err e) h a = tt

pub is_only : (payload : List ℕ) (r : Result Record RecordError) → GivesWhole payload r (plain_at payload) → (s : Record) → Spells (plain_of s) payload → AnswersRecord r s
is_only payload (Ok r) a s h = one_record r s (some_is _ _ (sym a ∙ plain_again payload (plain_of s) h))
is_only payload (Err errors.NoMemory) a s h = tt
is_only payload (Err (errors.Fault faults.Malformed)) a s h = let some = plain_again payload (plain_of s) h in absurd cc
is_only payload (Err (errors.Fault (faults.UnknownType t))) a s h =
    let none = unknown_none payload a.0 (subst (λ (x : ℕ). is_known x ≡ false) a.1 a.2) in
    let some = plain_again payload (plain_of s) h in
    absurd cc

-- a payload spells one record at most
pub is_one : (payload : List ℕ) (r s : Record) → Spells (plain_of r) payload → Spells (plain_of s) payload → r ≡ s
is_one payload r s g h = one_record r s (some_is _ _ (sym (plain_again payload (plain_of r) g) ∙ plain_again payload (plain_of s) h))

pub is_unknown : (payload : List ℕ) (r : Result Record RecordError) → GivesWhole payload r (plain_at payload) → IsUnknown payload → AnswersFault r (faults.UnknownType (slice_index payload 3))
is_unknown payload (Ok r) a u = let none = unknown_none payload u.0 u.1 in absurd cc
is_unknown payload (Err errors.NoMemory) a u = tt
is_unknown payload (Err (errors.Fault faults.Malformed)) a u = let known = a.1 u.0 in let unknown = u.1 in absurd cc
is_unknown payload (Err (errors.Fault (faults.UnknownType t))) a u = ap faults.UnknownType a.1

pub is_malformed : (payload : List ℕ) (r : Result Record RecordError) → IsBytes payload → GivesWhole payload r (plain_at payload) → (IsUnknown payload → ⊥)
    → ((s : Record) → Spells (plain_of s) payload → ⊥) → AnswersFault r faults.Malformed
is_malformed payload (Ok r) h a known none = none r (plain_takes payload (plain_of r) h a)
is_malformed payload (Err errors.NoMemory) h a known none = tt
is_malformed payload (Err (errors.Fault faults.Malformed)) h a known none = refl
is_malformed payload (Err (errors.Fault (faults.UnknownType t))) h a known none =
    absurd (known (a.0, subst (λ (x : ℕ). is_known x ≡ false) a.1 a.2))
