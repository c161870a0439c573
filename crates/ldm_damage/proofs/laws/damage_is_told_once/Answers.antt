use Rattle.ldm_damage.proofs.DamageLaws.{plain_is_shown, one_damage}
use Rattle.ldm_damage.proofs.laws.damage_is_told_once.Goals as goal

pub returns : goal.returns
returns c = record { plain = plain_is_shown; one = one_damage }
