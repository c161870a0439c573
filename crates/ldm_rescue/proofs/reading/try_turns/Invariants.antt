use Rattle.ldm_host.specs.Moves.{Looks}
use Rattle.ldm_host.specs.Failed.{failed_since}
use Rattle.ldm_rescue.proofs.SourceLaws.{sources_to}
use Rattle.ldm_rescue.proofs.RescueLaws.{AreTried}
use Rattle.ldm_rescue.proofs.reading.try_turns.Given as goal

abbrev pub invariant-turns : goal.invariant-turns
invariant-turns g l = record {
  looks : Looks (g.H.Host.seen l.fn.host) (g.H.Host.seen l.host) ⊥;
  tried : g.H.Host.tells_disks → AreTried (failed_since (g.H.Host.seen l.fn.host) (g.H.Host.seen l.host)) (sources_to l.found l.plan l.sector l.turn) l.unread;
}
