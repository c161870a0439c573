use Rattle.std.proofs.Common.{ℕ, Option, Some, None, subst}
use Rattle.ldm_found.specs.Gathers.{IsFirst}
use Rattle.ldm_init.specs.Faults.{IsSmall, IsTooLarge, IsFull}
use Rattle.ldm_init.proofs.InitLaws.{twins_of, all_large}
use Rattle.ldm_init.proofs.faults.check_disks.Goals as goal

pub returns-in-Some-clause-fault : goal.returns-in-Some-clause-fault
returns-in-Some-clause-fault g c tells guids same =
    twins_of c.args.labels.now (g.H.Host.seen c.args.host.now).sizes guids c.twins.result (Some (c.in-Some.place, c.in-Some.other)) c.twins.ensures c.in-Some.is same

pub returns-in-Some-first_small-clause-fault : goal.returns-in-Some-first_small-clause-fault
returns-in-Some-first_small-clause-fault g c tells guids same =
    let sizes = (g.H.Host.seen c.args.host.now).sizes in (
      twins_of c.args.labels.now sizes guids c.twins.result None c.twins.ensures c.in_default.is same,
      subst (λ (o : Option ℕ). IsFirst IsSmall sizes o) c.in-Some-first_small.is c.first_small.ensures,
    )

pub returns-in-Some-first_large-clause-fault : goal.returns-in-Some-first_large-clause-fault
returns-in-Some-first_large-clause-fault g c tells guids same =
    let sizes = (g.H.Host.seen c.args.host.now).sizes in (
      twins_of c.args.labels.now sizes guids c.twins.result None c.twins.ensures c.in_default.is same,
      subst (λ (o : Option ℕ). IsFirst IsSmall sizes o) c.in_default-first_small.is c.first_small.ensures,
      subst (λ (o : Option ℕ). IsFirst IsTooLarge sizes o) c.in-Some-first_large.is c.first_large.ensures,
    )

pub first_full-requires-clause-large : goal.first_full-requires-clause-large
first_full-requires-clause-large g c =
    let sizes = (g.H.Host.seen c.args.host.now).sizes in
    all_large sizes (subst (λ (o : Option ℕ). IsFirst IsSmall sizes o) c.in_default-first_small.is c.first_small.ensures)

pub returns-in-Some-2-clause-fault : goal.returns-in-Some-2-clause-fault
returns-in-Some-2-clause-fault g c tells guids same =
    let start = g.H.Host.seen c.args.host.now in (
      twins_of c.args.labels.now start.sizes guids c.twins.result None c.twins.ensures c.in_default.is same,
      subst (λ (o : Option ℕ). IsFirst IsSmall start.sizes o) c.in_default-first_small.is c.first_small.ensures,
      subst (λ (o : Option ℕ). IsFirst IsTooLarge start.sizes o) c.in_default-first_large.is c.first_large.ensures,
      subst (λ (o : Option ℕ). IsFirst IsFull start.content o) c.in-Some-2.is (c.in_ok-image.ensures.is tells),
    )

pub returns-in-None-clause-fault : goal.returns-in-None-clause-fault
returns-in-None-clause-fault g c tells guids same =
    let start = g.H.Host.seen c.args.host.now in (
      twins_of c.args.labels.now start.sizes guids c.twins.result None c.twins.ensures c.in_default.is same,
      subst (λ (o : Option ℕ). IsFirst IsSmall start.sizes o) c.in_default-first_small.is c.first_small.ensures,
      subst (λ (o : Option ℕ). IsFirst IsTooLarge start.sizes o) c.in_default-first_large.is c.first_large.ensures,
      subst (λ (o : Option ℕ). IsFirst IsFull start.content o) c.in-None.is (c.in_ok-image.ensures.is tells),
    )

pub returns-in-None-clause-large : goal.returns-in-None-clause-large
returns-in-None-clause-large g c =
    let sizes = (g.H.Host.seen c.args.host.now).sizes in
    all_large sizes (subst (λ (o : Option ℕ). IsFirst IsSmall sizes o) c.in_default-first_small.is c.first_small.ensures)
