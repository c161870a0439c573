use Rattle.std.proofs.Common.{◌∙◌, ap, ℕ, List}
use Rattle.uuid.specs.Parts.{swap_fields}
use Rattle.ldm_bytes.specs.Places.{put}
use Rattle.ldm_label.proofs.writing_gpt.put_mixed_guid.Goals as goal

pub returns : goal.returns
returns c = c.put_bytes.ensures ∙ ap (λ (bytes : List ℕ). put c.args.bytes.now c.args.at bytes) (c.to_bytes_le.ensures ∙ ap swap_fields c.from_u128.ensures)
