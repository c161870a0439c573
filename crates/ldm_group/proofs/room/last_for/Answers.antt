use Rattle.ldm_group.proofs.LastLaws.{last_grows}
use Rattle.ldm_group.proofs.room.last_for.Goals as goal

pub returns-then-need-room-clause-grows : goal.returns-then-need-room-clause-grows
returns-then-need-room-clause-grows c = last_grows

pub returns-clause-grows : goal.returns-clause-grows
returns-clause-grows c = last_grows
