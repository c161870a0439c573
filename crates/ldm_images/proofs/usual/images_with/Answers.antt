use Rattle.std.proofs.Common.{◌≡◌, ◌+◌, ◌*◌, ◌∷◌, [], ℕ, List, length, subst, sym}
use Rattle.std.specs.Prelude.{All, Vec}
use Rattle.std.specs.declared.alloc.Global.{Global}
use Rattle.std.proofs.lemmas.List.Elements.{All-append, All-from_recursion}
use Rattle.ldm_host.specs.Images.{items_of}
use Rattle.ldm_images.specs.Usual.{AreUsualImages}
use Rattle.ldm_images.proofs.UsualLaws.{images_more}
use Rattle.ldm_images.proofs.usual.images_with.Goals as goal

IsWhole : Vec ℕ Global → Type 0
IsWhole image = length image.items ≡ 8192 * 512

pub loop-disk-preserved : goal.loop-disk-preserved
unfolding IsWhole
loop-disk-preserved c =
    let before = c.loop-disk.images.items in
    let one = c.in_ok-image_of.field-0 in
    let items = c.in_ok-push.ensures.items in
    let is = c.in_ok-image_of.ensures {u = tt} in
    record {
      sizes = subst (All IsWhole) (sym {A = List (Vec ℕ Global)} items) (All-append IsWhole before (one ∷ []) c.loop-disk.invariant.sizes (All-from_recursion IsWhole (one ∷ []) (is.size, tt)));
      are = subst (λ (l : List (Vec ℕ Global)). AreUsualImages (c.loop-disk.disk + 1) (items_of l)) (sym {A = List (Vec ℕ Global)} items)
          (images_more c.loop-disk.disk before one c.loop-disk.invariant.are is);
    }
