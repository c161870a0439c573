-- The length of the own spelling.
use Rattle.std.proofs.Common.{◌≡◌, ◌+◌, length, arith}
use Rattle.std.proofs.lemmas.List.{length-append}
use Rattle.ldm_records.specs.Values.{own_values}
use Rattle.ldm_records.specs.Plain.{Plain, own_spelling, own_body, body_len}
use Rattle.ldm_records.proofs.ValueLaws.{own_values-len}

pub own_body_len : (p : Plain) → length (own_body p) ≡ body_len p
own_body_len p = omega (arith, length-append (own_values p.fields) p.tail, own_values-len p.fields)

pub own-len : (p : Plain) → length (own_spelling p) ≡ 8 + body_len p
own-len p = omega (arith, own_body_len p)
