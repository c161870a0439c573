use Rattle.std.proofs.Common.{◌≡◌, ◌/◌, length, sym, subst, arith}
use Rattle.ldm_label.specs.declared.Label.{Label}
use Rattle.ldm_label.specs.LabelOf.{Fits}
use Rattle.ldm_label.specs.Written.{HasLabel, SameOutsideLabel}
use Rattle.ldm_sample_disks.specs.Disks.{sample_label}
use Rattle.ldm_sample_disks.proofs.DiskLaws.{label_fits}
use Rattle.ldm_vectors.proofs.ImageLaws.{image_of}
use Rattle.ldm_vectors.proofs.images.write_image.Goals as goal

pub write_label-requires-clause-fits : goal.write_label-requires-clause-fits
write_label-requires-clause-fits c =
    let sectors : length c.put_bytes.new.buf / 512 ≡ 8192 = omega (arith, c.requires.zeros.size) in
    subst (λ (l : Label). Fits l (length c.put_bytes.new.buf / 512)) (sym c.sample_label.ensures)
    (subst (Fits (sample_label c.args.disk)) (sym sectors) (label_fits c.args.disk))

pub returns : goal.returns
returns c =
    let label = c.sample_label.ensures in
    image_of c.args.disk c.args.body.now c.args.image.now c.put_bytes.new.buf c.write_label.new.image c.requires.room c.requires.zeros c.put_bytes.ensures
    (subst (λ (l : Label). HasLabel l c.write_label.new.image) label c.write_label.ensures.written)
    (subst (λ (l : Label). SameOutsideLabel l c.put_bytes.new.buf c.write_label.new.image) label c.write_label.ensures.stays)
