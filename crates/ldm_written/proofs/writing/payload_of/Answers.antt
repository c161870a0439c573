use Rattle.std.proofs.Common.{◌∙◌}
use Rattle.ldm_written.proofs.WriteLaws.{zeros_behind}
use Rattle.ldm_written.proofs.writing.payload_of.Goals as goal

pub returns : goal.returns
returns c = c.put_bytes.ensures ∙ zeros_behind c.args.bytes.now
