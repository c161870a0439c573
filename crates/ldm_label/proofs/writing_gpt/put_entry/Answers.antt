use Rattle.ldm_bytes.proofs.PutLaws.{put_then, put_none}
use Rattle.ldm_label.proofs.writing_gpt.put_entry.Goals as goal

pub returns : goal.returns
returns c =
    put_then _ _ _ _ _ c.put_mixed_guid.ensures (put_then _ _ _ _ _ c.put_mixed_guid-2.ensures (put_then _ _ _ _ _ c.put_le64.ensures (put_then _ _ _ _ _ c.put_le64-2.ensures
    (put_then _ _ _ _ _ c.put_bytes.ensures (put_none _)))))
