use Rattle.ldm_label.proofs.PresentLaws.{label_at_image}
use Rattle.ldm_label.proofs.present.label_with.Goals as goal

pub returns-clause-at : goal.returns-clause-at
returns-clause-at c = label_at_image c.args.guid c.args.labels.now
