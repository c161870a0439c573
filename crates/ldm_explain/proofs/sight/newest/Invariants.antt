use Rattle.ldm_host.specs.Moves.{Looks}
use Rattle.ldm_explain.proofs.sight.newest.Given as goal

abbrev pub invariant-loop-disk : goal.invariant-loop-disk
invariant-loop-disk g l = record { looks : Looks (g.H.Host.seen l.fn.host) (g.H.Host.seen l.host) ⊥ }
