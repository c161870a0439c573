use Rattle.std.proofs.Common.{◌≡◌, ◌/◌, ◌∙◌, ap, length, Ok, sym, subst, arith}
use Rattle.ldm_label.specs.declared.Label.{Label}
use Rattle.ldm_label.specs.LabelOf.{Fits}
use Rattle.ldm_label.specs.Written.{SameOutsideLabel}
use Rattle.ldm_sample_disks.specs.Disks.{sample_label}
use Rattle.ldm_sample_disks.proofs.DiskLaws.{label_fits}
use Rattle.ldm_images.proofs.UsualLaws.{image_is, keeps_then}
use Rattle.ldm_images.proofs.usual.write_image.Goals as goal

pub write_label-requires-clause-fits : goal.write_label-requires-clause-fits
write_label-requires-clause-fits c =
    let sectors : length c.write_payloads.new.image / 512 ≡ 8192 = omega (arith, c.requires.size, c.write_unused.ensures.size, c.write_payloads.ensures.size) in
    subst (λ (l : Label). Fits l (length c.write_payloads.new.image / 512)) (sym c.sample_label.ensures)
    (subst (Fits (sample_label c.args.disk)) (sym sectors) (label_fits c.args.disk))

pub returns : goal.returns
returns c =
    let new = c.write_label.new.image in
    image_is c.args.disk c.args.image.now c.put_bytes.new.buf c.write_payloads.new.image new c.header_sector.result c.requires.size (omega arith) c.header_sector.ensures
    c.put_bytes.ensures (keeps_then c.put_bytes.new.buf c.write_unused.new.image c.write_payloads.new.image c.write_unused.ensures c.write_payloads.ensures)
    (c.write_label.ensures.reads_back ∙ ap Ok c.sample_label.ensures)
    (subst (λ (l : Label). SameOutsideLabel l c.write_payloads.new.image new) c.sample_label.ensures c.write_label.ensures.stays)
