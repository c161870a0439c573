use Rattle.std.proofs.Common.{◌≡◌, ◌-◌, ◌*◌, ◌/◌, ◌∙◌, ℕ, List, Result, Err, length, ap, sym, subst, arith}
use Rattle.ldm_host.specs.Seen.{image}
use Rattle.ldm_host.proofs.Relations.{looks_as}
use Rattle.ldm_frags.specs.declared.faults.Joined.{Joined}
use Rattle.ldm_frags.specs.Joins.{Joins}
use Rattle.ldm_group.specs.Database.{Database}
use Rattle.ldm_copy.specs.declared.answer.CopyError.{CopyError}
use Rattle.ldm_copy.specs.Alike.{sectors_from}
use Rattle.ldm_copy.specs.Steps.{JoinsBlocks, MakesDatabase, ReadsDatabase}
use Rattle.ldm_label.proofs.ReadLaws.{handed_on}
use Rattle.ldm_copy.proofs.ReadLaws.{not_joined, or_disk, database_fits}
use Rattle.ldm_copy.proofs.reading.database_at.Goals as goal

pub returns-in_err-list-clause-reads : goal.returns-in_err-list-clause-reads
returns-in_err-list-clause-reads g c tells =
    let disk = image (g.H.Host.seen c.args.host.now).content c.args.disk in
    let many : c.saturating_sub-sectors.result ≡ c.args.header.last / 4 - 1 = omega (arith, c.saturating_sub-sectors.ensures, c.from.ensures) in
    rw (handed_on c.from_residual.result c.in_err-list.field-0.0 c.from_residual.ensures.1)
    (not_joined c.args.header (sectors_from c.args.from (c.args.header.last / 4 - 1) disk)
    c.in_err-list.field-0.0 (subst (λ (n : ℕ). JoinsBlocks (sectors_from c.args.from n disk)
    (Err c.in_err-list.field-0.0)) many (c.in_err-list.ensures.fault tells)))

pub returns-clause-reads : goal.returns-clause-reads
returns-clause-reads g c tells =
    let disk = image (g.H.Host.seen c.args.host.now).content c.args.disk in
    let many : c.saturating_sub-sectors.result ≡ c.args.header.last / 4 - 1 = omega (arith, c.saturating_sub-sectors.ensures, c.from.ensures) in
    let read = c.in_ok-list.ensures.read in
    let made = c.database_of.ensures.makes read.bytes (subst (λ (list : List Joined). Joins read.bytes list) (sym c.deref.ensures.value) read.passes) in
    subst (λ (blocks : List ℕ). ReadsDatabase c.args.header blocks c.database_of.result) (read.there tells ∙ ap (λ (n : ℕ). sectors_from c.args.from n disk) many)
    (or_disk (MakesDatabase c.args.header read.bytes) c.database_of.result made)

pub returns-clause-fits : goal.returns-clause-fits
returns-clause-fits g c sectors last =
    let read = c.in_ok-list.ensures.read in
    let joins = subst (λ (list : List Joined). Joins read.bytes list) (sym c.deref.ensures.value) read.passes in
    let size : length read.bytes ≡ 512 * (c.args.header.last / 4 - 1) = omega (arith, read.size, c.saturating_sub-sectors.ensures, c.from.ensures) in
    database_fits sectors c.args.header read.bytes c.database_of.result (c.database_of.ensures.makes read.bytes joins) last size (c.database_of.ensures.room read.bytes joins)

-- the database of blocks that were read never fails by the disk
pub returns-clause-looks : goal.returns-clause-looks
returns-clause-looks g c =
    let read = c.in_ok-list.ensures.read in
    let made = c.database_of.ensures.makes read.bytes (subst (λ (list : List Joined). Joins read.bytes list) (sym c.deref.ensures.value) read.passes) in
    looks_as c.in_ok-list.ensures.looks (λ disk. absurd (subst (λ (r : Result Database CopyError). MakesDatabase c.args.header read.bytes r) disk made))
