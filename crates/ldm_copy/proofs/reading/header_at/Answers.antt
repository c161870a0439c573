use Rattle.std.proofs.Common.{List, ℕ, Option, Result, refl, subst, ◌∙◌}
use Rattle.ldm_host.specs.Seen.{image}
use Rattle.ldm_host.proofs.Relations.{looks_as}
use Rattle.ldm_vmdb.specs.declared.header.Header.{Header}
use Rattle.ldm_copy.specs.declared.answer.CopyError.{CopyError}
use Rattle.ldm_copy.specs.Steps.{OpensHeader, ReadsFirstSector}
use Rattle.ldm_copy.proofs.AreaLaws.{chunk_is}
use Rattle.ldm_copy.proofs.ReadLaws.{or_disk}
use Rattle.ldm_copy.proofs.reading.header_at.Goals as goal

pub returns-clause-opens : goal.returns-clause-opens
returns-clause-opens g c tells =
    let disk = image (g.H.Host.seen c.args.host.now).content c.args.disk in
    subst (λ (s : List ℕ). ReadsFirstSector s c.args.area_sectors c.open_header.result) (c.in_ok-first.ensures.bytes tells ∙ chunk_is disk c.args.start 1 512 refl)
    (or_disk (OpensHeader c.in_ok-first.first c.args.area_sectors) c.open_header.result
    c.open_header.ensures.opens)

-- the header of a sector that was read never fails by the disk
pub returns-clause-looks : goal.returns-clause-looks
returns-clause-looks g c =
    looks_as c.in_ok-first.ensures.looks
    (λ disk. absurd (subst (λ (r : Result (Option Header) CopyError). OpensHeader c.in_ok-first.first c.args.area_sectors r) disk c.open_header.ensures.opens))
