use Rattle.ldm_host.proofs.Relations.{looks_then}
use Rattle.ldm_explain.proofs.sight.stranger.Goals as goal

pub returns-in_err-newest : goal.returns-in_err-newest
returns-in_err-newest g c = looks_then c.named_on-own.ensures c.newest.ensures (λ is. absurd is)

pub returns-in-Some : goal.returns-in-Some
returns-in-Some g c = looks_then c.named_on-own.ensures c.newest.ensures (λ is. absurd is)

pub returns : goal.returns
returns g c = looks_then c.named_on-own.ensures c.newest.ensures (λ is. absurd is)
