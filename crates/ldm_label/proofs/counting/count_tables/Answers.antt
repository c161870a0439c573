use Rattle.ldm_host.proofs.Relations.{looks_then}
use Rattle.std.proofs.Common.{refl}
use Rattle.ldm_label.proofs.counting.count_tables.Goals as goal

pub returns-in_err-second-clause-looks : goal.returns-in_err-second-clause-looks
returns-in_err-second-clause-looks g c = looks_then c.in_ok-first.ensures.looks c.in_err-second.ensures.looks (λ is. refl)

pub returns-in_err-third-clause-looks : goal.returns-in_err-third-clause-looks
returns-in_err-third-clause-looks g c =
    looks_then (looks_then c.in_ok-first.ensures.looks c.in_ok-second.ensures.looks (λ is. is)) c.in_err-third.ensures.looks (λ is. refl)

pub returns-in_err-fourth-clause-looks : goal.returns-in_err-fourth-clause-looks
returns-in_err-fourth-clause-looks g c =
    looks_then (looks_then (looks_then c.in_ok-first.ensures.looks c.in_ok-second.ensures.looks (λ is. is)) c.in_ok-third.ensures.looks (λ is. is))
    c.in_err-fourth.ensures.looks (λ is. refl)

pub returns-clause-looks : goal.returns-clause-looks
returns-clause-looks g c =
    looks_then (looks_then (looks_then c.in_ok-first.ensures.looks c.in_ok-second.ensures.looks (λ is. is)) c.in_ok-third.ensures.looks (λ is. is))
    c.in_ok-fourth.ensures.looks (λ is. is)
