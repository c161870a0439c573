use Rattle.std.proofs.Common.{[], refl}
use Rattle.ldm_rescue.proofs.ListLaws.{contains_first, failed_now}
use Rattle.ldm_rescue.proofs.reading.read_spot.Goals as goal

pub returns-in-Err-clause-failed : goal.returns-in-Err-clause-failed
returns-in-Err-clause-failed g c tells = record { spot = c.args.spot; part = contains_first c.args.spot []; on = refl; failed = failed_now _ _ _ (c.in-Err.ensures.failed tells) }
