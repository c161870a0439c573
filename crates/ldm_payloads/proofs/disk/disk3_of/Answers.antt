use Rattle.std.proofs.Common.{rules, arith, ◌∙◌}
use Rattle.ldm_records.specs.Table.{disk3_kinds}
use Rattle.ldm_payloads.specs.FieldViews.{disk3_seen}
use Rattle.ldm_payloads.proofs.OpeningLaws.{rest_none, rest_is, rest_gives}
use Rattle.ldm_payloads.proofs.disk.disk3_of.Goals as goal

pub returns-in_default : goal.returns-in_default
returns-in_default c = rest_none c.args.opening.now 0x34 disk3_kinds c.args.rest.now c.in_default.ensures.gives

pub returns-in_err-head : goal.returns-in_err-head
returns-in_err-head c =
    let gives = c.in_err-head.ensures.gives 0x34 (disk3_seen c.in-Some.fields) (omega (arith, c.in-Some.ensures.long)) in
    rest_gives c.args.opening.now 0x34 disk3_kinds c.args.rest.now _ c.from_residual.result c.in-Some.ensures.gives (search rules)

pub returns : goal.returns
returns c =
    let whole = rest_is c.args.opening.now 0x34 disk3_kinds c.args.rest.now _ c.in-Some.ensures.gives ∙ c.in_ok-head.ensures.gives 0x34 (disk3_seen c.in-Some.fields) (omega (arith, c.in-Some.ensures.long)) in
    let alt-is = c.in-Ok.ensures in
    cc
