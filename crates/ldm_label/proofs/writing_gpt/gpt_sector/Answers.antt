use Rattle.std.proofs.Common.{◌∙◌, ap, ℕ}
use Rattle.ldm_bytes.proofs.PutLaws.{put_then, put_none}
use Rattle.ldm_label.specs.Written.{sector_with}
use Rattle.ldm_label.specs.WrittenGpt.{drawn_guid, gpt_fields, with_checksum, written_gpt}
use Rattle.ldm_label.proofs.writing_gpt.gpt_sector.Goals as goal

pub returns : goal.returns
unfolding written_gpt
returns c =
    let place = c.args.place.now in
    let n = c.args.sectors in
    c.put_checksum.ensures
    ∙ ap with_checksum (
    put_then _ _ _ _ _ c.put_bytes.ensures (put_then _ _ _ _ _ c.put_le32.ensures (put_then _ _ _ _ _ c.put_le32-2.ensures (put_then _ _ _ _ _ c.put_le64.ensures
    (put_then _ _ _ _ _ c.put_le64-2.ensures (put_then _ _ _ _ _ c.put_le64-3.ensures (put_then _ _ _ _ _ c.put_le64-4.ensures (put_then _ _ _ _ _ c.put_mixed_guid.ensures
    (put_then _ _ _ _ _ c.put_le64-5.ensures (put_then _ _ _ _ _ c.put_le32-3.ensures (put_then _ _ _ _ _ c.put_le32-4.ensures (put_then _ _ _ _ _ c.put_le32-5.ensures (put_none _))))))))))))
    ∙ ap (λ (guid : ℕ). sector_with (gpt_fields guid c.args.checksum n place.own place.other place.entries)) c.drawn_guid.ensures
    ∙ ap (λ (checksum : ℕ). sector_with (gpt_fields (drawn_guid c.args.label.now 1) checksum n place.own place.other place.entries)) c.requires.checksum
    )
