use Rattle.std.proofs.Common.{arith}
use Rattle.ldm_bytes.proofs.NumberLaws.{own_number-is_number, own_fewest}
use Rattle.ldm_bytes.proofs.numbers.number_len.Goals as goal

pub returns-clause-spells : goal.returns-clause-spells
returns-clause-spells c = own_number-is_number c.args.v (omega arith)

pub returns-clause-fewest : goal.returns-clause-fewest
returns-clause-fewest c = λ w spells bytes long. omega (arith, c.width_of.ensures.value, own_fewest c.args.v w spells long bytes)
