use Rattle.std.proofs.Common.{◌≡◌, []}
use Rattle.ldm_rescue.proofs.SourceLaws.{sources_to}
use Rattle.ldm_rescue.proofs.sources.first_source.Given as goal

abbrev pub invariant-turns : goal.invariant-turns
invariant-turns g l = sources_to l.found l.plan l.sector l.turn ≡ []
