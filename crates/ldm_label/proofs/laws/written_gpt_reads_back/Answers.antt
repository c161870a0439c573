use Rattle.ldm_label.proofs.GptLabelLaws.{gpt_label_reads}
use Rattle.ldm_label.proofs.laws.written_gpt_reads_back.Goals as goal

pub returns : goal.returns
returns c = gpt_label_reads
