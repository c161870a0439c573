use Rattle.ldm_host.proofs.Relations.{still_itself}
use Rattle.ldm_scan.proofs.scanning.scan_next.Goals as goal

pub returns-in-Some-clause-still : goal.returns-in-Some-clause-still
returns-in-Some-clause-still g c = ∣ still_itself (g.H.Host.seen c.args.host) (g.met.H.Host.counts_now c.args.host) (g.met.H.Host.only_now c.args.host) ∣₁
