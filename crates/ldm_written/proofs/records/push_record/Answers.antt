use Rattle.std.proofs.Common.{◌≡◌, ap, arith, ◌+◌, ◌++◌, ◌∙◌, length, List, ℕ}
use Rattle.std.proofs.lemmas.Result.{on_ok_weaker}
use Rattle.ldm_records.specs.FieldViews.{values_of}
use Rattle.ldm_records.specs.Plain.{made}
use Rattle.ldm_written.proofs.SpellLaws.{record_written}
use Rattle.ldm_written.proofs.records.push_record.Goals as goal

pub returns : goal.returns
returns c =
    let tail = c.as_slice-tail.ensures in
    let len : ℕ = c.fields_len.result + length c.as_slice-tail.result.now in
    on_ok_weaker c.push_bytes.result
    (λ (e : c.push_bytes.new.out.items ≡ c.push_fields.new.out.items ++ c.as_slice-tail.result.now).
    record_written c.args.out.now.items c.push_head.new.out.items c.push_fields.new.out.items c.push_bytes.new.out.items
    (made c.args.head.now.mark c.args.head.now.flags c.args.kind (values_of c.args.fields.now, c.args.tail.now)) len
    (omega (arith, c.fields_len.ensures, ap length tail)) c.in_ok-push_head.ensures c.in_ok-push_fields.ensures
    (e ∙ ap (λ (x : List ℕ). c.push_fields.new.out.items ++ x) tail))
    c.push_bytes.ensures
