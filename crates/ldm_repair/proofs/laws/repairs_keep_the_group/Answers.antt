use Rattle.ldm_repair.proofs.PastLaws.{closing_keeps_group, good_is_past, one_group_past}
use Rattle.ldm_repair.proofs.laws.repairs_keep_the_group.Goals as goal

pub returns : goal.returns
returns c = record { closing = closing_keeps_group; good = good_is_past; one = one_group_past }
