use Rattle.std.proofs.Common.{ℕ, ◌∙◌, ap}
use Rattle.ldm_bytes.specs.Guid.{own_guid}
use Rattle.ldm_bytes.specs.Places.{put}
use Rattle.ldm_images.specs.Usual.{usual_header}
use Rattle.ldm_bytes.proofs.PutLaws.{put_then, put_none}
use Rattle.ldm_images.proofs.usual.header_sector.Goals as goal

pub returns : goal.returns
unfolding usual_header
returns c =
    let guid = c.put_guid.ensures ∙ ap (λ (g : ℕ). put c.put_bytes-2.new.buf 0x35 (own_guid g)) c.guid_with.ensures in
    put_then _ _ _ _ _ c.put_bytes.ensures (put_then _ _ _ _ _ c.put_u32.ensures (put_then _ _ _ _ _ c.put_u32-2.ensures (put_then _ _ _ _ _ c.put_u32-3.ensures
    (put_then _ _ _ _ _ c.put_u16.ensures (put_then _ _ _ _ _ c.put_u16-2.ensures (put_then _ _ _ _ _ c.put_u16-3.ensures (put_then _ _ _ _ _ c.put_bytes-2.ensures
    (put_then _ _ _ _ _ guid (put_then _ _ _ _ _ c.put_u64.ensures (put_then _ _ _ _ _ c.put_u64-2.ensures
    (put_then _ _ _ _ _ c.put_u32-4.ensures (put_then _ _ _ _ _ c.put_u32-5.ensures (put_none _)))))))))))))
