use Rattle.std.proofs.Common.{arith, ap, subst, sym, ◌-◌, ◌+◌, ◌≡◌, ℕ, slice_index, take, drop, Option, Err}
use Rattle.ldm_records.specs.Plain.{Plain}
use Rattle.ldm_payloads.specs.declared.fault.RecordError.TheVariants as errors
use Rattle.ldm_payloads.specs.declared.fault.RecordFault.TheVariants as faults
use Rattle.ldm_payloads.specs.Whole.{GivesTyped}
use Rattle.ldm_payloads.proofs.WholeLaws.{whole_answers}
use Rattle.ldm_payloads.proofs.reading.payload_record.Goals as goal

pub returns-in_default : goal.returns-in_default
returns-in_default c =
    let n : 8 + c.get_u32-len.result - 8 ≡ c.get_u32-len.result = omega arith in
    let type : ℕ = slice_index c.args.payload.now 3 in
    whole_answers c.args.payload.now _ c.get_u16-mark.result c.get_u32-len.result (Err (errors.Fault faults.Malformed)) c.if-payload-lt8.false c.if-payload-len.false c.get_u16-mark.ensures c.get_u32-len.ensures (ap (λ (k : ℕ). take k (drop 8 c.args.payload.now)) n)
    (c.in_default.ensures type, sym c.if-not-is_known_type.ensures)

pub returns : goal.returns
returns c =
    let n : 8 + c.get_u32-len.result - 8 ≡ c.get_u32-len.result = omega arith in
    let type : ℕ = slice_index c.args.payload.now 3 in
    whole_answers c.args.payload.now _ c.get_u16-mark.result c.get_u32-len.result c.typed_record.result c.if-payload-lt8.false c.if-payload-len.false c.get_u16-mark.ensures c.get_u32-len.ensures (ap (λ (k : ℕ). take k (drop 8 c.args.payload.now)) n)
    (subst (λ (read : Option Plain). GivesTyped type c.typed_record.result read) (sym (c.in-Some.ensures type)) c.typed_record.ensures)
