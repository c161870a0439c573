use Rattle.std.proofs.Common.{◌≡◌, ◌*◌, length}
use Rattle.std.specs.Prelude.{All}
use Rattle.ldm_host.specs.Images.{items_of}
use Rattle.ldm_images.specs.Usual.{AreUsualImages}
use Rattle.ldm_images.proofs.usual.images_with.Given as goal

abbrev pub invariant-loop-disk : goal.invariant-loop-disk
invariant-loop-disk l = record {
  sizes : All (λ image. length image.items ≡ 8192 * 512) l.images.items;
  are : AreUsualImages l.disk (items_of l.images.items);
}
