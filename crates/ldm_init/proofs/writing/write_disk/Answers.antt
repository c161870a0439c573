use Rattle.std.proofs.Common.{[], ◌≡◌, ◌*◌, ◌/◌, ◌∙◌, ℕ, List, ◌∷◌, ◌++◌, length, slice_index, slice_range, ap, sym, subst}
use Rattle.ldm_host.specs.Seen.{image}
use Rattle.ldm_label.specs.declared.writing.LabelSectors.{LabelSectors}
use Rattle.ldm_label.specs.LabelOf.{Fits}
use Rattle.ldm_label.specs.Written.{written_header}
use Rattle.ldm_body.proofs.RewriteLaws.{on_ok_map}
use Rattle.ldm_init.specs.Bytes.{IsFront, unsigned_image}
use Rattle.ldm_init.specs.Beside.{IsBeside, ChangesBeside}
use Rattle.ldm_init.specs.Moments.{IsReadyToSign}
use Rattle.ldm_init.proofs.ReadyLaws.{ready_is, mbr_front}
use Rattle.ldm_init.proofs.writing.write_disk.Goals as goal

pub returns-clause-ready : goal.returns-clause-ready
returns-clause-ready g c tells =
    let label = c.args.label.now in
    let a = g.H.Host.seen c.args.host.now in
    let x = image a.content c.args.disk in
    let sectors = c.label_sectors-sectors.result in
    let front = slice_range sectors.mbr 0 511 in
    let last = c.fill_last.new.buffer in
    let first : IsFront front = ap (λ (s : LabelSectors). slice_range s.mbr 0 511 ++ (0xAA ∷ [])) c.label_sectors-sectors.ensures ∙ mbr_front in
    let second : sectors.header ≡ written_header label = ap (λ (s : LabelSectors). s.header) c.label_sectors-sectors.ensures in
    let size : slice_index a.sizes c.args.disk ≡ length x / 512 = sym (g.met.H.Host.lengths tells c.args.host.now c.args.disk c.requires.disk) in
    on_ok_map c.write_unsigned.result _ _ (λ wrote db on.
    subst (λ (y : List ℕ). IsReadyToSign db label y) (sym wrote)
    (ready_is label c.args.body.now x front sectors.header last (subst (λ (n : ℕ). Fits label n) size c.requires.takes.fits) first second c.fill_last.ensures.last db c.requires.takes.writable on))
    (c.write_unsigned.ensures.written tells)

pub returns-clause-changes : goal.returns-clause-changes
returns-clause-changes g c =
    subst (λ (n : ℕ). ChangesBeside (IsBeside (512 * c.args.label.now.config_start) n) c.args.disk (g.H.Host.seen c.args.host.now) (g.H.Host.seen c.write_unsigned.new.host)) c.fill_last.ensures.last.size c.write_unsigned.ensures.changes

pub returns-clause-written : goal.returns-clause-written
returns-clause-written g c tells =
    let label = c.args.label.now in
    let x = image (g.H.Host.seen c.args.host.now).content c.args.disk in
    let last = c.fill_last.new.buffer in
    on_ok_map c.write_unsigned.result _ _ (λ wrote. record {
      last = last;
      last_is = c.fill_last.ensures.last;
      image_is = wrote ∙ ap (λ (s : LabelSectors). unsigned_image label x (slice_range s.mbr 0 511) s.header last) c.label_sectors-sectors.ensures;
    })
    (c.write_unsigned.ensures.written tells)
