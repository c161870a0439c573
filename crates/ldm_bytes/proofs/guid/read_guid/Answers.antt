use Rattle.std.proofs.Common.{sym}
use Rattle.ldm_bytes.proofs.GuidLaws.{not_36, read_is, none_is}
use Rattle.ldm_bytes.proofs.guid.read_guid.Goals as goal

pub returns-then-text-ne36 : goal.returns-then-text-ne36
returns-then-text-ne36 c = sym (not_36 c.args.text.now c.if-text-ne36.true)

pub returns-in-Ok : goal.returns-in-Ok
returns-in-Ok c = read_is c.args.text.now c.in-Ok.id c.as_u128.result c.if-text-ne36.false c.in-Ok.ensures.bytes c.as_u128.ensures

pub returns-in-Err : goal.returns-in-Err
returns-in-Err c = none_is c.args.text.now c.if-text-ne36.false (λ w. let e = c.in-Err.ensures.ok.1 w in absurd cc)
