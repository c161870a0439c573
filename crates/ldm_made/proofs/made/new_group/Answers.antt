use Rattle.std.proofs.Common.{arith}
use Rattle.std.specs.Prelude.{replicate}
use Rattle.ldm_bytes.proofs.GuidLaws.{own_guid-len}
use Rattle.ldm_records.specs.declared.pieces.GroupForm.TheVariants.{V3}
use Rattle.ldm_records.specs.Values.{Absent}
use Rattle.ldm_records.specs.Forms.{group_values}
use Rattle.ldm_made.proofs.MadeLaws.{number_len, group_is}
use Rattle.ldm_made.proofs.made.new_group.Goals as goal

pub invariant_of-result : goal.invariant_of-result
invariant_of-result c = grind (arith, own_guid-len, number_len)

pub returns : goal.returns
returns c =
    let name = c.in_ok-name.ensures in
    let guid = c.in_ok-guid.ensures in
    let tail = c.empty-tail.ensures in
    group_is c.args.id c.args.name.now c.args.guid c.ranges.id.fits c.requires _
    (λ i. record { mark = 0; flags = 0; type = 0x35; fields = group_values c.args.id (name i) (V3 (guid i) (replicate 12 0)) Absent Absent; tail = tail i })
