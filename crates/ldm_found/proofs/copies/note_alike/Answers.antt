use Rattle.std.proofs.Common.{◌≡◌, length, sym, ap, arith}
use Rattle.std.proofs.lemmas.Option.{slice_get-get_or}
use Rattle.ldm_host.specs.Seen.{image}
use Rattle.ldm_vmdb.specs.declared.header.Header.{Header}
use Rattle.ldm_found.proofs.CopyLaws.{newest_there, adds_again}
use Rattle.ldm_found.proofs.copies.note_alike.Goals as goal

pub is_alike-requires-clause-other_fits : goal.is_alike-requires-clause-other_fits
is_alike-requires-clause-other_fits g c =
    let among = rw c.in-Some.is at c.requires.newest in
    c.requires.lie.fits _ _ (slice_get-get_or c.args.labels.now c.in-Some.newest.image _ (omega (arith, among.within)))

pub returns-clause-is : goal.returns-clause-is
returns-clause-is g c tells copies all is =
    let content = (g.H.Host.seen c.args.host.now).content in
    let labels = c.args.labels.now in
    let n = c.in-Some.newest in
    let one_each : length content ≡ length labels = omega (arith, g.met.H.Host.one_each tells c.args.host.now, c.requires.lie.one_label) in
    let among = rw c.in-Some.is at c.requires.newest in
    let newest = rw c.in-Some.is at is in
    let here = c.in_ok-is_alike.ensures.copy tells c.if-not-branch.false n.db (ap (λ (h : Header). h.last) (sym c.header-header.ensures))
    (newest_there labels content c.args.disk copies n _ among.within (omega arith) one_each all newest) in
    rw (c.in-Some.is, c.header-header.ensures) (adds_again copies n (c.args.label.now, image content c.args.disk) newest here)
