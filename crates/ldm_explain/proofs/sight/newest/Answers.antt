use Rattle.ldm_host.proofs.Relations.{looks_then}
use Rattle.ldm_explain.proofs.sight.newest.Goals as goal

pub loop-disk-preserved : goal.loop-disk-preserved
loop-disk-preserved g c = record { looks = looks_then c.loop-disk.invariant.looks c.named_on-named.ensures (λ is. absurd is) }
