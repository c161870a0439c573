use Rattle.std.proofs.Common.{ap, length, arith}
use Rattle.std.specs.Prelude.{replicate}
use Rattle.ldm_records.specs.Fields.{partition_values}
use Rattle.ldm_made.proofs.MadeLaws.{name_len, number_len, index_len, partition_is}
use Rattle.ldm_made.proofs.made.new_partition.Goals as goal

pub invariant_of-head : goal.invariant_of-head
invariant_of-head c = record { name_short = omega (arith, ap length c.in_ok-name.ensures, name_len c.args.id c.ranges.id.fits) }

pub invariant_of-result : goal.invariant_of-result
invariant_of-result c = grind (arith, name_len, number_len, index_len)

pub returns : goal.returns
returns c =
    let name = c.in_ok-name.ensures in
    let flags = c.index_flags-flags.ensures in
    let tail = c.empty-tail.ensures in
    partition_is c.args.id c.args.start c.args.offset c.args.size c.args.parent c.args.disk c.args.index c.ranges.id.fits c.ranges.size.fits c.ranges.parent.fits c.ranges.disk.fits c.requires _
    (λ i. record { mark = 0; flags = flags i; type = 0x33; fields = partition_values c.args.id (name i) (replicate 12 0) c.args.start c.args.offset c.args.size c.args.parent c.args.disk c.args.index; tail = tail i })
