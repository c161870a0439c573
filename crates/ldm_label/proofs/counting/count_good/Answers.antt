use Rattle.ldm_host.proofs.Relations.{looks_then}
use Rattle.std.proofs.Common.{refl}
use Rattle.ldm_label.proofs.counting.count_good.Goals as goal

pub returns-in_err-tables-clause-looks : goal.returns-in_err-tables-clause-looks
returns-in_err-tables-clause-looks g c = looks_then c.in_ok-headers.ensures.looks c.in_err-tables.ensures.looks (λ is. refl)

pub returns-clause-is : goal.returns-clause-is
returns-clause-is g c tells =
    let headers = c.in_ok-headers.ensures.is tells in
    let tables = rw c.in_ok-headers.ensures.looks.still.content at (c.in_ok-tables.ensures.is tells) in
    λ i. record { headers = headers i; tables = tables i }

pub returns-clause-looks : goal.returns-clause-looks
returns-clause-looks g c = looks_then c.in_ok-headers.ensures.looks c.in_ok-tables.ensures.looks (λ is. is)
