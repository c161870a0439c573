use Rattle.ldm_label.proofs.WrittenLaws.{label_sectors_stay, label_reads}
use Rattle.ldm_label.proofs.laws.written_label_reads_back.Goals as goal

pub returns-clause-reads_back : goal.returns-clause-reads_back
returns-clause-reads_back c = label_reads

pub returns-clause-stay : goal.returns-clause-stay
returns-clause-stay c = label_sectors_stay
