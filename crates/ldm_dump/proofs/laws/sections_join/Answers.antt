use Rattle.ldm_dump.proofs.ByteLaws.{text_append}
use Rattle.ldm_dump.proofs.laws.sections_join.Goals as goal

pub returns : goal.returns
returns c = text_append
