use Rattle.std.proofs.Common.{◌+◌, ap}
use Rattle.ldm_edits.proofs.Common.{Header}
use Rattle.ldm_edits.proofs.AdditionLaws.{created_next}
use Rattle.ldm_edits.proofs.creating.create.Goals as goal
use Rattle.ldm_label.proofs.ReadLaws.{handed_on}

pub create-requires-clause-sound : goal.create-requires-clause-sound
create-requires-clause-sound c = rw c.none-added.ensures.whole c.requires.sound

pub returns-in_err-create : goal.returns-in_err-create
returns-in_err-create c =
    rw (handed_on c.from_residual.result c.in_err-create.field-0.0 c.from_residual.ensures.1)
    (rw c.none-added.ensures.whole at c.in_err-create.ensures.is.0)

pub returns : goal.returns
returns c =
    rw c.in_ok-joined.ensures (created_next _ _ _ _ _ _ c.none-added.result c.create.new.self c.none-added.ensures.whole c.in_ok-create.ensures.is
    (ap (λ (h : Header). h.seq + 1) c.header.ensures))
