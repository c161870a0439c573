use Rattle.std.proofs.Common.{arith}
use Rattle.ldm_init.specs.Faults.{IsTooLarge}
use Rattle.ldm_init.proofs.InitLaws.{none_further, found_here, none_at_all}
use Rattle.ldm_init.proofs.faults.first_large.Goals as goal

pub returns-then-sectors-ge4294967296 : goal.returns-then-sectors-ge4294967296
returns-then-sectors-ge4294967296 g c =
    let sizes = (g.H.Host.seen c.args.host.now).sizes in
    found_here IsTooLarge sizes c.loop-disk.disk 0 (omega (arith, c.loop-disk-test.true, c.disks-disk-end.ensures)) c.loop-disk.invariant (omega (arith, c.sectors.ensures.size, c.if-sectors-ge4294967296.true))

pub loop-disk-preserved : goal.loop-disk-preserved
loop-disk-preserved g c =
    let sizes = (g.H.Host.seen c.args.host.now).sizes in
    none_further IsTooLarge sizes c.loop-disk.disk 0 (omega (arith, c.loop-disk-test.true, c.disks-disk-end.ensures)) c.loop-disk.invariant (λ small. omega (arith, small, c.sectors.ensures.size, c.if-sectors-ge4294967296.false))

pub returns : goal.returns
returns g c = none_at_all IsTooLarge (g.H.Host.seen c.args.host.now).sizes c.loop-disk.disk (omega (arith, c.loop-disk-test.false, c.disks-disk-end.ensures)) c.loop-disk.invariant
