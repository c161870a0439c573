use Rattle.std.proofs.Common.{ap, length, arith}
use Rattle.std.specs.Prelude.{replicate}
use Rattle.ldm_records.specs.Fields.{component_values}
use Rattle.ldm_records.specs.Forms.{chunk_value, columns_value}
use Rattle.ldm_made.proofs.MadeLaws.{number_len, component_name_len, chunk_len, component_is}
use Rattle.ldm_made.proofs.made.new_component.Goals as goal

pub invariant_of-head : goal.invariant_of-head
invariant_of-head c = record { name_short = omega (arith, ap length c.in_ok-name.ensures, component_name_len c.args.id c.ranges.id.fits) }

pub invariant_of-result : goal.invariant_of-result
invariant_of-result c = grind (arith, component_name_len, number_len, chunk_len)

pub returns : goal.returns
returns c =
    let name = c.in_ok-name.ensures in
    let state = c.in_ok-state.ensures in
    let flags = c.striping_flags-flags.ensures in
    let tail = c.empty-tail.ensures in
    component_is c.args.id c.args.parent c.args.layout c.args.children c.args.striping c.ranges.id.fits c.ranges.parent.fits c.ranges.children.fits c.requires _
    (λ i. record {
      mark = 0;
      flags = flags i;
      type = 0x32;
      fields = component_values c.args.id (name i) (state i) c.args.layout (replicate 4 0) c.args.children (replicate 16 0) c.args.parent 0 (chunk_value c.args.striping) (columns_value c.args.striping);
      tail = tail i;
    })
