use Rattle.std.proofs.Common.{arith}
use Rattle.ldm_payloads.proofs.WholeLaws.{is_found, is_only, is_one, is_unknown, is_malformed}
use Rattle.ldm_payloads.proofs.reading.read_record.Goals as goal

pub returns-clause-found : goal.returns-clause-found
returns-clause-found c = is_found c.args.payload.now c.payload_record.result (λ i. omega (arith, c.type_inv.payload i)) c.payload_record.ensures

pub returns-clause-only : goal.returns-clause-only
returns-clause-only c = is_only c.args.payload.now c.payload_record.result c.payload_record.ensures

pub returns-clause-unknown : goal.returns-clause-unknown
returns-clause-unknown c = is_unknown c.args.payload.now c.payload_record.result c.payload_record.ensures

pub returns-clause-malformed : goal.returns-clause-malformed
returns-clause-malformed c = is_malformed c.args.payload.now c.payload_record.result (λ i. omega (arith, c.type_inv.payload i)) c.payload_record.ensures

pub returns-clause-one : goal.returns-clause-one
returns-clause-one c = is_one c.args.payload.now
