use Rattle.std.proofs.Common.{rules, ◌+◌, ◌-◌, ◌/◌, List, ℕ, Err, subst}
use Rattle.ldm_host.specs.Seen.{image}
use Rattle.ldm_host.proofs.Relations.{looks_then}
use Rattle.ldm_label.proofs.ReadLaws.{handed_on}
use Rattle.ldm_copy.specs.Alike.{sectors_from}
use Rattle.ldm_copy.specs.Steps.{ReadsDatabase}
use Rattle.ldm_copy.proofs.ReadLaws.{closed_found, header_found, fault_found, database_found}
use Rattle.ldm_copy.proofs.reading.copy_at.Goals as goal

pub returns-in_err-header_at-clause-found : goal.returns-in_err-header_at-clause-found
returns-in_err-header_at-clause-found g c tells =
    rw (handed_on c.from_residual.result c.in_err-header_at.field-0.0 c.from_residual.ensures.1)
    (header_found (image (g.H.Host.seen c.args.host.now).content c.args.disk) c.args.label.now
    c.requires.fits.some_area c.area_start-start.result c.area_start-start.ensures.is
    c.in_err-header_at.field-0.0 (c.in_err-header_at.ensures.opens tells))

pub returns-in-None-clause-found : goal.returns-in-None-clause-found
returns-in-None-clause-found g c tells =
    closed_found (image (g.H.Host.seen c.args.host.now).content c.args.disk) c.args.label.now c.requires.fits.some_area c.area_start-start.result c.area_start-start.ensures.is
    (rw c.in-None.is at (c.in_ok-header_at.ensures.opens tells))

pub returns-in_err-db-in-Some-clause-found : goal.returns-in_err-db-in-Some-clause-found
returns-in_err-db-in-Some-clause-found g c tells =
    rw (handed_on c.from_residual-in_err-db-in-Some.result c.in_err-db-in-Some.field-0.0
    c.from_residual-in_err-db-in-Some.ensures.1)
    (fault_found (image (g.H.Host.seen c.args.host.now).content c.args.disk) c.args.label.now
    c.requires.fits.some_area c.area_start-start.result c.area_start-start.ensures.is
    c.in-Some.header (rw c.in-Some.is at c.in_ok-header_at.ensures.last)
    (rw c.in-Some.is at (c.in_ok-header_at.ensures.opens tells))
    c.in_err-db-in-Some.field-0.0
    (subst (λ (content : List (List ℕ)). ReadsDatabase c.in-Some.header (sectors_from (c.area_start-start.result + 1) (c.in-Some.header.last / 4 - 1) (image content c.args.disk)) (Err c.in_err-db-in-Some.field-0.0))
    c.in_ok-header_at.ensures.looks.still.content (c.in_err-db-in-Some.ensures.reads tells)))

pub returns-in_ok-db-in-Some-clause-found : goal.returns-in_ok-db-in-Some-clause-found
returns-in_ok-db-in-Some-clause-found g c tells =
    database_found (image (g.H.Host.seen c.args.host.now).content c.args.disk) c.args.label.now c.requires.fits.some_area c.area_start-start.result c.area_start-start.ensures.is
    c.in-Some.header (rw c.in-Some.is at c.in_ok-header_at.ensures.last)
    (rw c.in-Some.is at (c.in_ok-header_at.ensures.opens tells))
    c.in_ok-db-in-Some.db (rw
    c.in_ok-header_at.ensures.looks.still.content at (c.in_ok-db-in-Some.ensures.reads tells))

pub returns-in_ok-db-in-Some-clause-sound : goal.returns-in_ok-db-in-Some-clause-sound
returns-in_ok-db-in-Some-clause-sound g c = c.in_ok-db-in-Some.ensures.fits c.args.label.now.area_sectors (rw c.in-Some.is at c.in_ok-header_at.ensures.last)

pub returns-in_err-db-in-Some-clause-looks : goal.returns-in_err-db-in-Some-clause-looks
returns-in_err-db-in-Some-clause-looks g c = looks_then c.header_at.ensures.looks c.database_at.ensures.looks (λ is. search rules)

pub returns-in_ok-db-in-Some-clause-looks : goal.returns-in_ok-db-in-Some-clause-looks
returns-in_ok-db-in-Some-clause-looks g c =
    looks_then c.header_at.ensures.looks c.database_at.ensures.looks (λ is. absurd (cc is))
