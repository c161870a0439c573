-- Reading on from the opening is reading the whole.
use Rattle.std.proofs.Common.{◌≡◌, ℕ, Bool, true, false, cond, eqb, List, [], ◌∷◌, ◌++◌, drop, Option, Some, None, Result, refl, sym, ap, subst, ◌∙◌}
use Rattle.ldm_records.specs.declared.types.Record.{Record}
use Rattle.ldm_records.specs.Views.{plain_of}
use Rattle.ldm_payloads.specs.declared.fault.RecordError.{RecordError}
use Rattle.ldm_payloads.specs.Gives.{Gives}
use Rattle.ldm_records.specs.Values.{Value, Number, Text, FieldKind, NumberKind, TextKind}
use Rattle.ldm_records.specs.Table.{kinds_of}
use Rattle.ldm_records.specs.Plain.{Plain, made}
use Rattle.ldm_payloads.specs.declared.opening.Opening.{Opening}
use Rattle.ldm_payloads.specs.Steps.{◌>>=◌, read_value, read_values, with_room, fields_at, typed_at}
use Rattle.ldm_payloads.specs.Opened.{opened, rest_at, typed_rest}

-- a number and a text are first
abbrev StartsSo : List FieldKind → Type 0
StartsSo kinds = kinds ≡ NumberKind ∷ TextKind ∷ drop 2 kinds

abbrev RowStartsSo : Option (List FieldKind) → Type 0
RowStartsSo None = Unit {0}
RowStartsSo (Some kinds) = StartsSo kinds

row_step : (b : Bool) (kinds : List FieldKind) (others : Option (List FieldKind)) → StartsSo kinds → RowStartsSo others → RowStartsSo (cond b (Some kinds) others)
row_step true kinds others h k = h
row_step false kinds others h k = k

row_starts : (type flags : ℕ) → RowStartsSo (kinds_of type flags)
row_starts type flags =
    row_step (eqb type 0x51) _ _ refl (row_step (eqb type 0x32) _ _ refl (row_step (eqb type 0x33) _ _ refl (row_step (eqb type 0x34) _ _ refl
    (row_step (eqb type 0x44) _ _ refl (row_step (eqb type 0x35) _ _ refl (row_step (eqb type 0x45) _ _ refl tt))))))

abbrev before : Value → List Value × List ℕ → Option (List Value × List ℕ)
before v xs = Some (v ∷ xs.0, xs.1)

-- two values before those that are read
two_before : (r : Option (List Value × List ℕ)) (a b : Value) (f : List Value × List ℕ → Option Plain)
    → (((r >>= before b) >>= before a) >>= f) ≡ (r >>= λ x. f (a ∷ b ∷ x.0, x.1))
two_before None a b f = refl
two_before (Some x) a b f = refl

fields_open : (o : Opening) (type : ℕ) (kinds : List FieldKind) (body mid rest : List ℕ) → StartsSo kinds
    → read_value NumberKind body ≡ Some (Number o.id, mid) → read_value TextKind mid ≡ Some (Text o.name.now, rest)
    → fields_at o.mark o.flags type kinds o.room body ≡ rest_at o type kinds rest
unfolding fields_at rest_at read_values
fields_open o type kinds body mid rest h n t =
    ap (λ (ks : List FieldKind). fields_at o.mark o.flags type ks o.room body) h
    ∙ rw (n, t) (two_before (read_values (drop 2 kinds) rest) (Number o.id) (Text o.name.now) _)

row_open : (o : Opening) (type : ℕ) (row : Option (List FieldKind)) (body mid rest : List ℕ) → RowStartsSo row
    → read_value NumberKind body ≡ Some (Number o.id, mid) → read_value TextKind mid ≡ Some (Text o.name.now, rest)
    → (row >>= λ kinds. fields_at o.mark o.flags type kinds o.room body) ≡ (row >>= λ kinds. rest_at o type kinds rest)
row_open o type None body mid rest h n t = refl
row_open o type (Some kinds) body mid rest h n t = fields_open o type kinds body mid rest h n t

pub typed_open : (o : Opening) (type : ℕ) (body mid rest : List ℕ)
    → read_value NumberKind body ≡ Some (Number o.id, mid) → read_value TextKind mid ≡ Some (Text o.name.now, rest)
    → typed_at o.mark o.flags type o.room body ≡ typed_rest o type rest
unfolding typed_at typed_rest
typed_open o type body mid rest n t = row_open o type (kinds_of type o.flags) body mid rest (row_starts type o.flags) n t

-- ---- no opening

-- nothing of this table's rows is read
row_none : (mark flags type room : ℕ) (row : Option (List FieldKind)) (body : List ℕ) → RowStartsSo row
    → ((ks : List FieldKind) → read_values (NumberKind ∷ TextKind ∷ ks) body ≡ None)
    → (row >>= λ kinds. fields_at mark flags type kinds room body) ≡ None
unfolding fields_at
row_none mark flags type room None body h none = refl
row_none mark flags type room (Some kinds) body h none =
    ap (λ (ks : List FieldKind). read_values ks body >>= λ x. with_room room (made mark flags type x)) h ∙ rw (none (drop 2 kinds)) refl

typed_none : (mark flags type room : ℕ) (body : List ℕ) → ((ks : List FieldKind) → read_values (NumberKind ∷ TextKind ∷ ks) body ≡ None)
    → typed_at mark flags type room body ≡ None
unfolding typed_at
typed_none mark flags type room body none = row_none mark flags type room (kinds_of type flags) body (row_starts type flags) none

pub typed_no_id : (mark flags type room : ℕ) (body : List ℕ) → read_value NumberKind body ≡ None → typed_at mark flags type room body ≡ None
unfolding read_values
typed_no_id mark flags type room body n = typed_none mark flags type room body (λ ks. rw n refl)

pub typed_no_name : (mark flags type room : ℕ) (body : List ℕ) (x : Value × List ℕ) → read_value NumberKind body ≡ Some x → read_value TextKind x.1 ≡ None
    → typed_at mark flags type room body ≡ None
unfolding read_values
typed_no_name mark flags type room body x n t = typed_none mark flags type room body (λ ks. rw (n, t) refl)

-- ---- the fields after the name

pub rest_none : (o : Opening) (type : ℕ) (kinds : List FieldKind) (rest : List ℕ) → read_values (drop 2 kinds) rest ≡ None → rest_at o type kinds rest ≡ None
unfolding rest_at
rest_none o type kinds rest e = rw e refl

pub rest_is : (o : Opening) (type : ℕ) (kinds : List FieldKind) (rest : List ℕ) (x : List Value × List ℕ) → read_values (drop 2 kinds) rest ≡ Some x
    → rest_at o type kinds rest ≡ with_room o.room (opened o type x)
unfolding rest_at
rest_is o type kinds rest x e = rw e refl

-- what was returned is the record with the fields after the name, where these were read
pub rest_gives : (o : Opening) (type : ℕ) (kinds : List FieldKind) (rest : List ℕ) (x : List Value × List ℕ) (r : Result Record RecordError)
    → read_values (drop 2 kinds) rest ≡ Some x → Gives plain_of r (with_room o.room (opened o type x)) → Gives plain_of r (rest_at o type kinds rest)
rest_gives o type kinds rest x r e g = subst (λ (read : Option Plain). Gives plain_of r read) (sym (rest_is o type kinds rest x e)) g

-- ---- two lists of kinds

abbrev joined : List Value → List Value × List ℕ → Option (List Value × List ℕ)
joined xs ys = Some (xs ++ ys.0, ys.1)

join_none : (r : Option (List Value × List ℕ)) → r ≡ (r >>= joined [])
join_none None = refl
join_none (Some x) = refl

join_before : (r : Option (List Value × List ℕ)) (v : Value) (vs : List Value) → ((r >>= joined vs) >>= before v) ≡ (r >>= joined (v ∷ vs))
join_before None v vs = refl
join_before (Some x) v vs = refl

join_step : (r : Option (List Value × List ℕ)) (v : Value) (ls : List FieldKind)
    → ((r >>= λ x. read_values ls x.1 >>= joined x.0) >>= before v) ≡ ((r >>= before v) >>= λ x. read_values ls x.1 >>= joined x.0)
join_step None v ls = refl
join_step (Some x) v ls = join_before (read_values ls x.1) v x.0

join_first : (r : Option (Value × List ℕ)) (ks ls : List FieldKind)
    → ((mid : List ℕ) → read_values (ks ++ ls) mid ≡ (read_values ks mid >>= λ x. read_values ls x.1 >>= joined x.0))
    → (r >>= λ x. read_values (ks ++ ls) x.1 >>= before x.0) ≡ ((r >>= λ x. read_values ks x.1 >>= before x.0) >>= λ x. read_values ls x.1 >>= joined x.0)
join_first None ks ls h = refl
join_first (Some x) ks ls h = rw (h x.1) (join_step (read_values ks x.1) x.0 ls)

-- reading two lists of kinds is reading the one and then the other
pub values_append : (ks ls : List FieldKind) (bytes : List ℕ) → read_values (ks ++ ls) bytes ≡ (read_values ks bytes >>= λ x. read_values ls x.1 >>= joined x.0)
unfolding read_values
values_append [] ls bytes = join_none (read_values ls bytes)
values_append (k ∷ ks) ls bytes = join_first (read_value k bytes) ks ls (λ mid. values_append ks ls mid)

pub values_join : (ks ls : List FieldKind) (bytes : List ℕ) (x y : List Value × List ℕ) → read_values ks bytes ≡ Some x → read_values ls x.1 ≡ Some y
    → read_values (ks ++ ls) bytes ≡ Some (x.0 ++ y.0, y.1)
values_join ks ls bytes x y e f = values_append ks ls bytes ∙ rw (e, f) refl

pub values_none_first : (ks ls : List FieldKind) (bytes : List ℕ) → read_values ks bytes ≡ None → read_values (ks ++ ls) bytes ≡ None
values_none_first ks ls bytes e = values_append ks ls bytes ∙ rw e refl

pub values_none_then : (ks ls : List FieldKind) (bytes : List ℕ) (x : List Value × List ℕ) → read_values ks bytes ≡ Some x → read_values ls x.1 ≡ None
    → read_values (ks ++ ls) bytes ≡ None
values_none_then ks ls bytes x e f = values_append ks ls bytes ∙ rw (e, f) refl
