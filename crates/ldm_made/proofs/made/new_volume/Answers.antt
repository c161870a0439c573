use Rattle.std.proofs.Common.{arith, None}
use Rattle.std.specs.Prelude.{replicate}
use Rattle.ldm_records.specs.Fields.{volume_values}
use Rattle.ldm_made.proofs.MadeLaws.{number_len, kind_len, fixed_len, volume_is}
use Rattle.ldm_made.proofs.made.new_volume.Goals as goal

pub invariant_of-result : goal.invariant_of-result
invariant_of-result c = grind (arith, kind_len, fixed_len, number_len)

pub returns : goal.returns
returns c =
    let name = c.in_ok-name.ensures in
    let kind = c.in_ok-kind.ensures in
    let second = c.empty-second.ensures in
    let tail = c.empty-tail.ensures in
    let fixed = c.volume_fixed21-fixed21.ensures in
    let guid = c.to_be_bytes-guid.ensures in
    volume_is c.args.id c.args.name.now c.args.guid c.args.raid c.args.children c.args.size c.ranges.id.fits c.requires c.ranges.children.fits c.ranges.size.fits _
    (λ i. record {
      mark = 0;
      flags = 0;
      type = 0x51;
      fields = volume_values c.args.id (name i) (kind i) (second i) (fixed i) c.args.children (replicate 16 0) c.args.size (replicate 4 0) 0x07 (guid i) None None None None;
      tail = tail i;
    })
