-- Fields that are read are spelled so, and fields that are spelled are read.
use Rattle.std.proofs.Common.{◌≡◌, ℕ, suc, ◌^◌, ◌<◌, ◌≤◌, true, false, ltb, List, [], ◌∷◌, ◌++◌, length, take, drop, Option, Some, None, refl, sym, ap, subst, ◌∙◌, append_assoc, arith}
use Rattle.std.proofs.lemmas.Bool.{ltb-false, le-ltb}
use Rattle.std.proofs.lemmas.List.{take_at, drop_at, take-append-drop, length-append, length-take-le}
use Rattle.std.proofs.Math.Nat.{pow-le-pow_right}
use Rattle.byteorder.specs.Endian.{big_number, big_bytes}
use Rattle.byteorder.specs.Numbers.{big_from-lt, big_number-reads_back, length-bytes_high_first}
use Rattle.ldm_bytes.specs.Numbers.{IsBytes, IsNumber, IsText, number_at, text_at}
use Rattle.ldm_bytes.specs.Guid.{guid_of}
use Rattle.ldm_bytes.proofs.GuidLaws.{guid_small}
use Rattle.ldm_bytes.proofs.BigLaws.{big_back}
use Rattle.ldm_bytes.proofs.NumberLaws.{guard_some, some_is, number_takes, number_again, text_takes, text_again}
use Rattle.ldm_bytes.proofs.ByteLaws.{IsBytes-back, IsBytes-front}
use Rattle.ldm_records.specs.Values.{Value, Fixed, Wide, GuidText, Number, Text, Absent, FieldKind, FixedKind, WideKind, GuidKind, NumberKind, TextKind, When, HasKind, HasKinds, SpellsValue, SpellsValues}
use Rattle.ldm_payloads.specs.Steps.{◌>>=◌, read_value, read_values}

-- the value of a step that did not fail
pub bind_some : {A B : Type 0} (r : Option A) (f : A → Option B) (y : B) → (r >>= f) ≡ Some y → (x : A) × (r ≡ Some x) × (f x ≡ Some y)
bind_some (Some x) f y e = (x, refl, e)
bind_some None f y e = absurd cc

number_small : (v : ℕ) (w : List ℕ) → IsNumber v w → IsBytes w → v < 2 ^ 64
number_small v [] n h = absurd n
number_small v (c ∷ bytes) n h =
    let below : big_number c bytes < 256 ^ c = big_from-lt 0 c bytes (λ i. h (suc i)) in
    let few : c ≤ 8 = n.0 in
    let top : 256 ^ c ≤ 256 ^ 8 = pow-le-pow_right (omega arith) few in
    omega (arith, n.2)

-- ---- one field

-- what was read: the value, its kind and how it is spelled
abbrev pub Takes : FieldKind → List ℕ → Value × List ℕ → Type 0
Takes k bytes x = (w : List ℕ) × HasKind k x.0 × SpellsValue x.0 w × (bytes ≡ w ++ x.1)

-- a text at the front is short and spelled
text_front : (bytes t rest : List ℕ) → IsBytes bytes → text_at bytes ≡ Some (t, rest) → IsText t (length t ∷ t) × (bytes ≡ (length t ∷ t) ++ rest)
text_front bytes t rest h e =
    let whole = text_takes bytes t rest e in
    let front : IsBytes (length t ∷ t) = IsBytes-front (length t ∷ t) rest (subst IsBytes whole h) in
    let short : length t < 256 = front 0 in
    ((omega arith, refl), whole)

pub value_takes : (k : FieldKind) (bytes : List ℕ) (x : Value × List ℕ) → IsBytes bytes → read_value k bytes ≡ Some x → Takes k bytes x
unfolding read_value
value_takes (FixedKind n) bytes x h e =
    let g = guard_some (ltb (length bytes) n) (Some (Fixed (take n bytes), drop n bytes)) x e in
    let long : n ≤ length bytes = ltb-false _ _ g.0 in
    subst (Takes (FixedKind n) bytes) (some_is (Fixed (take n bytes), drop n bytes) x g.1) (take n bytes, length-take-le n bytes long, refl, sym (take-append-drop n bytes))
value_takes (WideKind n) bytes x h e =
    let g = guard_some (ltb (length bytes) n) (Some (Wide n (big_number n bytes), drop n bytes)) x e in
    let long : n ≤ length bytes = ltb-false _ _ g.0 in
    subst (Takes (WideKind n) bytes) (some_is (Wide n (big_number n bytes), drop n bytes) x g.1) (take n bytes, (refl, big_from-lt 0 n bytes h), sym (big_back n bytes long h), sym (take-append-drop n bytes))
value_takes GuidKind bytes x h e =
    let b = bind_some (text_at bytes) (λ y. guid_of y.0 >>= λ v. Some (GuidText v, y.1)) x e in
    let d = bind_some (guid_of b.0.0) (λ v. Some (GuidText v, b.0.1)) x b.2 in
    let t = text_front bytes b.0.0 b.0.1 h b.1 in
    subst (Takes GuidKind bytes) (some_is (GuidText d.0, b.0.1) x d.2) (length b.0.0 ∷ b.0.0, guid_small b.0.0 d.0 d.1, (b.0.0, t.0, d.1), t.1)
value_takes NumberKind bytes x h e =
    let b = bind_some (number_at bytes) (λ y. Some (Number y.0, y.1)) x e in
    let t = number_takes bytes b.0.0 b.0.1 b.1 in
    let front : IsBytes t.0 = IsBytes-front t.0 b.0.1 (subst IsBytes t.2 h) in
    subst (Takes NumberKind bytes) (some_is (Number b.0.0, b.0.1) x b.2) (t.0, number_small b.0.0 t.0 t.1 front, t.1, t.2)
value_takes TextKind bytes x h e =
    let b = bind_some (text_at bytes) (λ y. Some (Text y.0, y.1)) x e in
    let t = text_front bytes b.0.0 b.0.1 h b.1 in
    subst (Takes TextKind bytes) (some_is (Text b.0.0, b.0.1) x b.2) (length b.0.0 ∷ b.0.0, t.0.0, t.0, t.1)
value_takes (When true k) bytes x h e = value_takes k bytes x h e
value_takes (When false k) bytes x h e = subst (Takes (When false k) bytes) (some_is (Absent, bytes) x e) ([], tt, refl, refl)

pub value_again : (k : FieldKind) (x : Value) (w rest : List ℕ) → HasKind k x → SpellsValue x w → read_value k (w ++ rest) ≡ Some (x, rest)
unfolding read_value
value_again (FixedKind n) (Fixed bytes) w rest h s =
    let len : length w ≡ n = ap length s ∙ h in
    let long : ltb (length (w ++ rest)) n ≡ false = le-ltb _ _ (omega (arith, length-append w rest)) in
    rw (long, take_at w rest n len, drop_at w rest n len, s) refl
value_again (WideKind n) (Wide m v) w rest h s =
    let same : m ≡ n = h.0 in
    let bytes : w ≡ big_bytes n v = s ∙ ap (λ (k : ℕ). big_bytes k v) same in
    let len : length w ≡ n = ap length bytes ∙ length-bytes_high_first n v in
    let long : ltb (length (w ++ rest)) n ≡ false = le-ltb _ _ (omega (arith, length-append w rest)) in
    let value : big_number n (w ++ rest) ≡ v = ap (λ (u : List ℕ). big_number n (u ++ rest)) bytes ∙ big_number-reads_back n v rest h.1 in
    rw (long, value, drop_at w rest n len, same) refl
value_again GuidKind (GuidText v) w rest h s = rw (s.1.1, text_again s.0 rest, s.2) refl
value_again NumberKind (Number v) w rest h s = rw (number_again v w rest s) refl
value_again TextKind (Text t) w rest h s = rw (s.1, text_again t rest) refl
value_again (When true k) x w rest h s = value_again k x w rest h s
value_again (When false k) Absent w rest h s = rw s refl
value_again _ _ w rest h s = absurd h

-- ---- all fields

abbrev pub AllTake : List FieldKind → List ℕ → List Value × List ℕ → Type 0
AllTake ks bytes x = (w : List ℕ) × HasKinds ks x.0 × SpellsValues x.0 w × (bytes ≡ w ++ x.1)

pub values_take : (ks : List FieldKind) (bytes : List ℕ) (x : List Value × List ℕ) → IsBytes bytes → read_values ks bytes ≡ Some x → AllTake ks bytes x
unfolding read_values
values_take [] bytes x h e = subst (AllTake [] bytes) (some_is ([], bytes) x e) ([], tt, refl, refl)
values_take (k ∷ ks) bytes x h e =
    let a = bind_some (read_value k bytes) (λ y. read_values ks y.1 >>= λ ys. Some (y.0 ∷ ys.0, ys.1)) x e in
    let b = bind_some (read_values ks a.0.1) (λ ys. Some (a.0.0 ∷ ys.0, ys.1)) x a.2 in
    let first = value_takes k bytes a.0 h a.1 in
    let others = values_take ks a.0.1 b.0 (IsBytes-back first.0 a.0.1 (subst IsBytes first.3 h)) b.1 in
    let whole : bytes ≡ (first.0 ++ others.0) ++ b.0.1 = first.3 ∙ ap (λ (r : List ℕ). first.0 ++ r) others.3 ∙ sym (append_assoc first.0 others.0 b.0.1) in
    subst (AllTake (k ∷ ks) bytes) (some_is (a.0.0 ∷ b.0.0, b.0.1) x b.2) (first.0 ++ others.0, (first.1, others.1), (first.0, others.0, first.2, others.2, refl), whole)

pub values_again : (ks : List FieldKind) (xs : List Value) (w rest : List ℕ) → HasKinds ks xs → SpellsValues xs w → read_values ks (w ++ rest) ≡ Some (xs, rest)
unfolding read_values
values_again [] [] w rest h s = rw s refl
values_again (k ∷ ks) (x ∷ xs) w rest h s =
    let regrouped : w ++ rest ≡ s.0 ++ (s.1 ++ rest) = ap (λ (u : List ℕ). u ++ rest) s.4 ∙ append_assoc s.0 s.1 rest in
    ap (read_values (k ∷ ks)) regrouped ∙ rw (value_again k x s.0 (s.1 ++ rest) h.0 s.2, values_again ks xs s.1 rest h.1 s.3) refl
values_again _ _ w rest h s = absurd h
