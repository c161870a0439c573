use Rattle.ldm_rules.proofs.CarryLaws.{new_sound}
use Rattle.ldm_rules.proofs.laws.new_groups_are_sound.Goals as goal

pub returns : goal.returns
returns c = new_sound
