use Rattle.std.proofs.Common.{rules, arith, ◌∙◌}
use Rattle.ldm_records.specs.Table.{group3_kinds}
use Rattle.ldm_payloads.specs.FieldViews.{group3_seen}
use Rattle.ldm_payloads.proofs.OpeningLaws.{rest_none, rest_is, rest_gives}
use Rattle.ldm_payloads.proofs.group.group3_of.Goals as goal

pub returns-in_default : goal.returns-in_default
returns-in_default c = rest_none c.args.opening.now 0x35 (group3_kinds c.args.opening.now.flags) c.args.rest.now c.in_default.ensures.gives

pub returns-in_err-head : goal.returns-in_err-head
returns-in_err-head c =
    let gives = c.in_err-head.ensures.gives 0x35 (group3_seen c.in-Some.fields) (omega (arith, c.in-Some.ensures.long, c.ids_len.ensures.len)) in
    rest_gives c.args.opening.now 0x35 (group3_kinds c.args.opening.now.flags) c.args.rest.now _ c.from_residual.result c.in-Some.ensures.gives (search rules)

pub returns-in-Ok-ids_of : goal.returns-in-Ok-ids_of
returns-in-Ok-ids_of c =
    let whole = rest_is c.args.opening.now 0x35 (group3_kinds c.args.opening.now.flags) c.args.rest.now _ c.in-Some.ensures.gives ∙ c.in_ok-head.ensures.gives 0x35 (group3_seen c.in-Some.fields) (omega (arith, c.in-Some.ensures.long, c.ids_len.ensures.len)) in
    let guid-is = c.in-Ok.ensures in
    let ids-first-is = c.in-Ok-ids_of.ensures.first in
    let ids-second-is = c.in-Ok-ids_of.ensures.second in
    cc
