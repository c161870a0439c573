use Rattle.std.proofs.Common.{set, List, ℕ, ◌∙◌, sym, ap}
use Rattle.ldm_host.specs.Images.{items_of}
use Rattle.ldm_bytes.specs.Places.{put}
use Rattle.ldm_memory.proofs.HeldLaws.{items_set, image_read}
use Rattle.ldm_memory.proofs.outcome.put_in.Goals as goal

pub returns : goal.returns
returns c =
    items_set c.args.images.now.items c.args.disk c.put_at.new.target
    ∙ ap (λ (l : List ℕ). set (items_of c.args.images.now.items) c.args.disk l)
    (c.put_at.ensures ∙ ap (λ (l : List ℕ). put l c.args.at c.args.bytes.now) (sym (image_read c.args.images.now.items c.args.disk c.index_mut.result.now c.requires.disk c.index_mut.ensures.value)))
