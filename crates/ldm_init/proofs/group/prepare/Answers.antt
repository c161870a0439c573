use Rattle.std.proofs.Common.{rules, ◌∙◌, Ok, Err}
use Rattle.ldm_host.proofs.Relations.{looks_as, looks_itself}
use Rattle.ldm_init.proofs.InitLaws.{sizes_are, init_answers}
use Rattle.ldm_init.proofs.group.prepare.Goals as goal

pub returns-in-Err-clause-fault : goal.returns-in-Err-clause-fault
returns-in-Err-clause-fault g c tells =
    let host = g.H.Host.seen c.args.host.now in
    init_answers c.args.guids.now host.sizes host.content (Err c.in-Err.error) (sizes_are host (g.met.H.Host.one_each tells c.args.host.now) (g.met.H.Host.lengths tells c.args.host.now))
    (c.in-Err.ensures.fault tells c.args.guids.now (c.deref.ensures.value ∙ c.in_ok-labels.ensures.are))

pub returns-in-Ok-clause-empty : goal.returns-in-Ok-clause-empty
returns-in-Ok-clause-empty g c tells =
    let host = g.H.Host.seen c.args.host.now in
    init_answers c.args.guids.now host.sizes host.content (Ok tt) (sizes_are host (g.met.H.Host.one_each tells c.args.host.now) (g.met.H.Host.lengths tells c.args.host.now))
    (c.in-Ok.ensures.fault tells c.args.guids.now (c.deref.ensures.value ∙ c.in_ok-labels.ensures.are))

pub returns-in_err-buffer-clause-looks : goal.returns-in_err-buffer-clause-looks
returns-in_err-buffer-clause-looks g c =
    looks_as (looks_itself (g.H.Host.seen c.args.host.now) (g.met.H.Host.counts_now c.args.host.now) (g.met.H.Host.only_now c.args.host.now)) (λ is. search rules)

pub returns-in-Err-clause-looks : goal.returns-in-Err-clause-looks
returns-in-Err-clause-looks g c = looks_as c.in-Err.ensures.looks (λ is. cc is)
