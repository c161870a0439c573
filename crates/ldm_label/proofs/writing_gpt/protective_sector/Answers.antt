use Rattle.std.proofs.Common.{◌∙◌, ap, ℕ}
use Rattle.ldm_bytes.proofs.PutLaws.{put_then, put_none}
use Rattle.ldm_label.specs.Written.{sector_with}
use Rattle.ldm_label.specs.WrittenGpt.{written_protective, protective_fields}
use Rattle.ldm_label.proofs.writing_gpt.protective_sector.Goals as goal

pub returns : goal.returns
unfolding written_protective
returns c =
    put_then _ _ _ _ _ c.put_bytes.ensures (put_then _ _ _ _ _ c.put_bytes-2.ensures (put_then _ _ _ _ _ c.put_le32.ensures (put_then _ _ _ _ _ c.put_le32-2.ensures
    (put_then _ _ _ _ _ c.put_bytes-3.ensures (put_none _)))))
    ∙ ap (λ (count : ℕ). sector_with (protective_fields count)) c.counted.ensures
