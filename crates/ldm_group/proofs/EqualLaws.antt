-- Two groups are equal or not: a case that a law may be tried by.
use Rattle.std.proofs.Common.{◌≡◌, ◌⊎◌, inl, inr, ℕ, zero, suc, List, [], ◌∷◌, get_or, drop, refl, sym, ◌∙◌, ap}
use Rattle.std.proofs.lemmas.Bool.{cases_eq}
use Rattle.ldm_records.specs.declared.types.Record.{Record}
use Rattle.ldm_records.specs.Values.{Value, Fixed, Wide, GuidText, Number, Text, Absent}
use Rattle.ldm_records.specs.Plain.{Plain}
use Rattle.ldm_records.specs.Views.{plain_of}
use Rattle.ldm_records.proofs.OneRecord.{one_record}
use Rattle.ldm_group.specs.Database.{Database, Core, core_of, IsSameCore}

-- equal, or not
abbrev pub Told : {A : Type 0} → A → A → Type 0
Told a b = (a ≡ b) ⊎ (a ≡ b → ⊥)

-- by parts of which none is lost
by_parts : {A B : Type 0} (f : A → B) (one : (a b : A) → f a ≡ f b → a ≡ b) → ((x y : B) → Told x y) → (a b : A) → Told a b
by_parts f one told a b = elim (told (f a) (f b)) [
  | inl same ↦ inl (one a b same)
  | inr differ ↦ inr (λ e. differ (ap f e))
]

told_pair : {A B : Type 0} → ((a b : A) → Told a b) → ((a b : B) → Told a b) → (x y : A × B) → Told x y
told_pair first second x y = elim (first x.0 y.0) [
  | inl same ↦ elim (second x.1 y.1) [
    | inl rest ↦ inl (λ i. (same i, rest i))
    | inr differ ↦ inr (λ e. differ (λ i. (e i).1))
  ]
  | inr differ ↦ inr (λ e. differ (λ i. (e i).0))
]

told_list : {A : Type 0} → ((a b : A) → Told a b) → (xs ys : List A) → Told xs ys
told_list told [] [] = inl refl
told_list told [] (y ∷ ys) = inr (λ e. cc)
told_list told (x ∷ xs) [] = inr (λ e. cc)
told_list told (x ∷ xs) (y ∷ ys) = elim (told x y) [
  | inl same ↦ elim (told_list told xs ys) [
    | inl rest ↦ inl (λ i. same i ∷ rest i)
    | inr differ ↦ inr (λ e. differ (ap (drop 1) e))
  ]
  | inr differ ↦ inr (λ e. differ (ap (λ l. get_or l 0 x) e))
]

numbers : (xs ys : List ℕ) → Told xs ys
numbers = told_list cases_eq

code : Value → List ℕ
code (Fixed bytes) = 0 ∷ bytes
code (Wide n v) = 1 ∷ n ∷ v ∷ []
code (GuidText v) = 2 ∷ v ∷ []
code (Number v) = 3 ∷ v ∷ []
code (Text t) = 4 ∷ t
code Absent = []

back : List ℕ → Value
back [] = Absent
back (zero ∷ bytes) = Fixed bytes
back (suc zero ∷ l) = Wide (get_or l 0 0) (get_or l 1 0)
back (suc (suc zero) ∷ l) = GuidText (get_or l 0 0)
back (suc (suc (suc zero)) ∷ l) = Number (get_or l 0 0)
back (suc (suc (suc (suc n))) ∷ t) = Text t

back_is : (x : Value) → back (code x) ≡ x
unfolding code back
back_is (Fixed bytes) = refl
back_is (Wide n v) = refl
back_is (GuidText v) = refl
back_is (Number v) = refl
back_is (Text t) = refl
back_is Absent = refl

told_value : (x y : Value) → Told x y
told_value = by_parts code (λ a b e. sym (back_is a) ∙ ap back e ∙ back_is b) numbers

told_plain : (p q : Plain) → Told p q
told_plain = by_parts (λ p. ((p.mark, p.flags), (p.type, (p.fields, p.tail))))
    (λ a b e i. record { mark = (e i).0.0; flags = (e i).0.1; type = (e i).1.0; fields = (e i).1.1.0; tail = (e i).1.1.1 })
    (told_pair (told_pair cases_eq cases_eq) (told_pair cases_eq (told_pair (told_list told_value) numbers)))

told_record : (r s : Record) → Told r s
told_record = by_parts plain_of one_record told_plain

pub told_core : (a b : Core) → Told a b
told_core = by_parts (λ c. ((c.last, c.seq), (c.name, (c.guid, c.records))))
    (λ a b e i. record { last = (e i).0.0; seq = (e i).0.1; name = (e i).1.0; guid = (e i).1.1.0; records = (e i).1.1.1 })
    (told_pair (told_pair cases_eq cases_eq) (told_pair numbers (told_pair cases_eq (told_list told_record))))

-- two that don't differ are one group
pub same_core : (a b : Database) → ((IsSameCore a b → ⊥) → ⊥) → IsSameCore a b
same_core a b is = elim (told_core (core_of a) (core_of b)) [
  | inl same ↦ same
  | inr differ ↦ absurd (is differ)
]
