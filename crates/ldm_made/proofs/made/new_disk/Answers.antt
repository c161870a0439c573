use Rattle.std.proofs.Common.{arith}
use Rattle.std.specs.Prelude.{replicate}
use Rattle.ldm_records.specs.declared.pieces.DiskForm.TheVariants.{V3}
use Rattle.ldm_records.specs.Forms.{disk_values}
use Rattle.ldm_made.proofs.MadeLaws.{number_len, disk_is}
use Rattle.ldm_made.proofs.made.new_disk.Goals as goal

pub invariant_of-result : goal.invariant_of-result
invariant_of-result c = grind (arith, number_len)

pub returns : goal.returns
returns c =
    let name = c.in_ok-name.ensures in
    let alt = c.empty-alt.ensures in
    let tail = c.empty-tail.ensures in
    disk_is c.args.id c.args.name.now c.args.guid c.ranges.id.fits c.requires _
    (λ i. record { mark = 0; flags = 0; type = 0x34; fields = disk_values c.args.id (name i) c.args.guid (V3 (alt i) (replicate 12 0)); tail = tail i })
