use Rattle.std.proofs.Common.{rules}
use Rattle.ldm_host.proofs.Relations.{looks_then}
use Rattle.ldm_found.proofs.GroupLaws.{one_group, finds, lies_on}
use Rattle.ldm_found.proofs.finding.find_group.Goals as goal

pub returns-in_err-labels-clause-one : goal.returns-in_err-labels-clause-one
returns-in_err-labels-clause-one g c a b x y = one_group (g.H.Host.seen c.args.host.now).content a b x y

pub returns-in_err-copies-clause-one : goal.returns-in_err-copies-clause-one
returns-in_err-copies-clause-one g c a b x y = one_group (g.H.Host.seen c.args.host.now).content a b x y

pub returns-clause-found : goal.returns-clause-found
returns-clause-found g c tells =
    let disks = c.in_ok-labels.ensures.is tells in
    let reads = rw (c.as_slice.ensures, c.in_ok-labels.ensures.looks.still.content) at (c.in_ok-copies.ensures.is tells) in
    finds (g.H.Host.seen c.args.host.now).content c.in_ok-labels.labels c.in_ok-copies.copies c.choose.result disks.0 disks.1 reads c.choose.ensures.is

pub returns-clause-one : goal.returns-clause-one
returns-clause-one g c a b x y = one_group (g.H.Host.seen c.args.host.now).content a b x y

pub returns-clause-lies : goal.returns-clause-lies
returns-clause-lies g c = lies_on c.choose.result c.in_ok-labels.labels (g.H.Host.seen c.args.host.now).sizes c.choose.ensures.same c.in_ok-labels.ensures.lie

pub returns-clause-looks : goal.returns-clause-looks
returns-clause-looks g c = looks_then c.in_ok-labels.ensures.looks c.in_ok-copies.ensures.looks (λ is. absurd (rw is at c.choose.ensures.is))

pub returns-in_err-copies-clause-looks : goal.returns-in_err-copies-clause-looks
returns-in_err-copies-clause-looks g c =
    looks_then c.in_ok-labels.ensures.looks c.in_err-copies.ensures.looks (λ is. search rules)
