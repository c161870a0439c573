use Rattle.ldm_body.proofs.BodyLaws.{begun_is, written_is}
use Rattle.ldm_body.proofs.laws.bodies_are_copies.Goals as goal

pub returns : goal.returns
returns c = record { begun = begun_is; written = written_is }
