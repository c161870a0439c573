-- A record whose opening was read: the fields after the name.
use Rattle.std.specs.Prelude.{ℕ, List, ◌∷◌, drop, Option, Some, None}
use Rattle.std.specs.Borrow.{Bor}
use Rattle.ldm_records.specs.declared.pieces.Head.{Head}
use Rattle.ldm_payloads.specs.declared.opening.Opening.{Opening}
use Rattle.ldm_records.specs.Values.{Value, Number, Text, FieldKind}
use Rattle.ldm_records.specs.Table.{kinds_of}
use Rattle.ldm_records.specs.Plain.{Plain, made}
use Rattle.ldm_payloads.specs.Steps.{◌>>=◌, read_values, with_room}

-- the record with these values after the name, and a tail
abbrev pub opened : Opening → ℕ → List Value × List ℕ → Plain
opened o type x = made o.mark o.flags type (Number o.id ∷ Text o.name.now ∷ x.0, x.1)

-- the record of this type with a head, these values after the name, and a tail
abbrev pub ended : ℕ → List Value → Head × List ℕ → Plain
ended type values x = made x.0.mark x.0.flags type (Number x.0.id ∷ Text x.0.name ∷ values, x.1)

-- the record of these kinds, the first two of which were read
unfoldable pub rest_at : Opening → ℕ → List FieldKind → List ℕ → Option Plain
rest_at o type kinds rest = read_values (drop 2 kinds) rest >>= λ x. with_room o.room (opened o type x)

-- the record of this type
unfoldable pub typed_rest : Opening → ℕ → List ℕ → Option Plain
typed_rest o type rest = kinds_of type o.flags >>= λ kinds. rest_at o type kinds rest

-- the record of this type, if the opening was found
abbrev pub typed_after : Option (Opening × Bor (List ℕ)) → ℕ → Option Plain
typed_after None type = None
typed_after (Some x) type = typed_rest x.0 type x.1.now
