use Rattle.ldm_edits.proofs.CommandLaws.{sequence_counts}
use Rattle.ldm_edits.proofs.laws.sequence_counts_lines.Goals as goal

pub returns : goal.returns
returns c = sequence_counts
