use Rattle.ldm_repair.proofs.TurnLaws.{damaged_turns_hold_one}
use Rattle.ldm_repair.proofs.laws.damaged_turns_hold_one_of_both.Goals as goal

pub returns : goal.returns
returns c = damaged_turns_hold_one
