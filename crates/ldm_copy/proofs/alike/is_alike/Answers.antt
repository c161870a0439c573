use Rattle.std.proofs.Common.{◌≡◌, ◌/◌, max, arith}
use Rattle.ldm_host.specs.Seen.{image}
use Rattle.ldm_copy.proofs.AreaLaws.{alike_is, alike_copy}
use Rattle.ldm_copy.proofs.alike.is_alike.Goals as goal

pub returns-clause-is : goal.returns-clause-is
returns-clause-is g c tells =
    let content = (g.H.Host.seen c.args.host.now).content in
    let n_is : c.max.result ≡ max 1 (c.args.last / 4) = omega arith in
    alike_is c.args.last c.max.result c.args.label.now c.args.other_label.now (image content c.args.disk) (image content c.args.other) n_is c.requires.fits.some_area c.requires.other_fits.some_area
    (omega arith) (omega arith) c.is_same.result (rw (c.area_start-from.ensures.is, c.area_start-other_from.ensures.is) at (c.is_same.ensures.is tells))

pub returns-clause-copy : goal.returns-clause-copy
returns-clause-copy g c tells =
    let content = (g.H.Host.seen c.args.host.now).content in
    let n_is : c.max.result ≡ max 1 (c.args.last / 4) = omega arith in
    alike_copy c.args.last c.max.result c.args.label.now c.args.other_label.now (image content c.args.disk) (image content c.args.other) n_is c.requires.fits.some_area c.requires.other_fits.some_area
    (omega arith) (omega arith) c.is_same.result (rw (c.area_start-from.ensures.is, c.area_start-other_from.ensures.is) at (c.is_same.ensures.is tells))
