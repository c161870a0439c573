use Rattle.std.proofs.Common.{◌≡◌, length, drop, sym, subst, arith}
use Rattle.std.proofs.lemmas.List.{take_at}
use Rattle.ldm_sample_disks.specs.Disks.{sample_label}
use Rattle.ldm_vectors.specs.Sample.{IsSampleImage}
use Rattle.ldm_vectors.proofs.images.sample_image.Goals as goal

pub returns : goal.returns
returns c =
    let image = c.in_ok-image.image in
    let written = c.write_image.new.image in
    let whole : length written ≡ image.len = omega arith in
    subst (IsSampleImage (sample_label c.args.disk) c.args.body.now) (sym (take_at written (drop (length written) image.items) image.len whole)) c.write_image.ensures
