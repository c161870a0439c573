use Rattle.std.proofs.Common.{rules, ◌≡◌, ◌≢◌, ◌<◌, ℕ, List, length, true, false, Bool, IfSome, inl, inr, Option, Result, Ok, Err, IfErr, sym, ◌∙◌, ap, subst, arith}
use Rattle.ldm_host.specs.Seen.{Seen}
use Rattle.ldm_host.specs.Moves.{Settled, Settles}
use Rattle.ldm_host.proofs.Relations.{looks_settles, looks_works, works_then}
use Rattle.ldm_body.specs.Table.{IsCoreBody}
use Rattle.ldm_copy.specs.declared.found.Found.{Found}
use Rattle.ldm_found.specs.declared.fault.OpenError.TheVariants.{Disk}
use Rattle.ldm_found.specs.Facts.{LieOn}
use Rattle.ldm_found.specs.Opening.{IsGroupIn}
use Rattle.ldm_store.proofs.AlikeLaws.{same_blocked}
use Rattle.ldm_store.specs.Turning.{AllSettled}
use Rattle.ldm_store.proofs.OpensLaws.{bodies_for}
use Rattle.ldm_store.proofs.SettleLaws.{one_label, kept_from, kept_if, hands_none, healing_group, healing_hands, healed_session}
use Rattle.ldm_store.proofs.settling.settle_synced.Goals as goal

-- a disk that has a label has no write pending
all_settled : (a : Seen) (found : Found) → length a.sizes ≡ length found.labels → ((disk : ℕ) → disk < length a.sizes → Settled a disk) → AllSettled found.labels a
all_settled a found one_each settled disk lt = settled disk (omega (arith, lt, one_each))

-- what holds of every error
any_error : {T E : Type 0} (result : Result T E) (Is : E → Type 0) → ((error : E) → Is error) → IfErr result Is
any_error (Ok value) Is all = tt
any_error (Err error) Is all = all error

-- nothing was written so far
pub returns-in_err-found-clause-kept : goal.returns-in_err-found-clause-kept
returns-in_err-found-clause-kept g c tells found is editable =
    let a = g.H.Host.seen c.args.host.now in
    let one_each = one_label a found (g.met.H.Host.one_each tells c.args.host.now) is in
    kept_from a (g.H.Host.seen c.ready.new.host) found is one_each (all_settled a found one_each c.requires.synced) (inl (looks_settles c.ready.ensures.looks).moments)

pub returns-in_err-found-clause-written : goal.returns-in_err-found-clause-written
returns-in_err-found-clause-written g c tells = inl (looks_settles c.ready.ensures.looks)

pub returns-in_err-found-clause-unwritten : goal.returns-in_err-found-clause-unwritten
returns-in_err-found-clause-unwritten g c =
    any_error c.from_residual.result (λ error. error ≢ Disk → Settles (g.H.Host.seen c.args.host.now) (g.H.Host.seen c.ready.new.host)) (λ error ne. looks_settles c.ready.ensures.looks)

pub returns-in_err-found-clause-handed : goal.returns-in_err-found-clause-handed
returns-in_err-found-clause-handed g c tells found is = hands_none found _ _ c.ready.ensures.looks.still.wrote

pub heal_all-requires-clause-lies : goal.heal_all-requires-clause-lies
heal_all-requires-clause-lies g c =
    subst (λ (l : List ℕ). LieOn c.in_ok-found.found.labels l) (sym c.ready.ensures.looks.still.later.sizes) c.in_ok-found.ensures.ready.lies

pub heal_all-requires-clause-body : goal.heal_all-requires-clause-body
heal_all-requires-clause-body g c =
    let found = c.in_ok-found.found in
    let ready = c.in_ok-found.ensures.ready in
    let core = ready.core in (
      core.0,
      bodies_for core.0 found.labels (g.H.Host.seen c.args.host.now).sizes c.in_ok-found.body ready.lies
          (same_blocked core.0 found.db found.labels core.1 ∙ sym ready.sound.blocked_is ∙ ready.editable) core.2,
    )

pub heal_all-requires-clause-exact : goal.heal_all-requires-clause-exact
heal_all-requires-clause-exact g c tells =
    let ready = c.in_ok-found.ensures.ready in
    bodies_for c.in_ok-found.found.db c.in_ok-found.found.labels (g.H.Host.seen c.args.host.now).sizes c.in_ok-found.body ready.lies (sym ready.sound.blocked_is ∙ ready.editable) (ready.exact tells)

pub heal_all-requires-clause-is : goal.heal_all-requires-clause-is
heal_all-requires-clause-is g c tells =
    subst (λ (l : List (List ℕ)). IsGroupIn l (Ok c.in_ok-found.found)) (sym c.ready.ensures.looks.still.content) (c.in_ok-found.ensures.ready.is tells)

pub returns-in_default-clause-kept : goal.returns-in_default-clause-kept
returns-in_default-clause-kept g c tells other is editable =
    let a = g.H.Host.seen c.args.host.now in
    let one_each = one_label a other (g.met.H.Host.one_each tells c.args.host.now) is in
    kept_from a (g.H.Host.seen c.heal_all.new.host) other is one_each (all_settled a other one_each c.requires.synced)
    (inr (healing_group g.H.Host.tells_disks _ a _ _ c.in_ok-found.found c.in_ok-found.body c.in_ok-found.shared c.in_ok-found.ensures.looks c.in_ok-found.ensures.ready _ c.heal_all.ensures tells))

pub returns-in_default-clause-written : goal.returns-in_default-clause-written
returns-in_default-clause-written g c tells = inr (c.in_ok-found.found, c.in_ok-found.ensures.ready.is tells, c.in_ok-found.ensures.ready.editable)

pub returns-in_default-clause-handed : goal.returns-in_default-clause-handed
returns-in_default-clause-handed g c =
    healing_hands g.H.Host.tells_disks _ _ _ _ c.in_ok-found.found c.in_ok-found.body c.in_ok-found.shared c.in_ok-found.ensures.looks c.in_ok-found.ensures.ready _ c.heal_all.ensures

pub returns-in_default-clause-works : goal.returns-in_default-clause-works
returns-in_default-clause-works g c = works_then (looks_works c.in_ok-found.ensures.looks) c.heal_all.ensures.works (λ is. search rules)

pub returns-clause-kept : goal.returns-clause-kept
returns-clause-kept g c tells other is editable =
    let a = g.H.Host.seen c.args.host.now in
    let one_each = one_label a other (g.met.H.Host.one_each tells c.args.host.now) is in
    kept_from a (g.H.Host.seen c.heal_all.new.host) other is one_each (all_settled a other one_each c.requires.synced)
    (inr (healing_group g.H.Host.tells_disks _ a _ _ c.in_ok-found.found c.in_ok-found.body c.in_ok-found.shared c.in_ok-found.ensures.looks c.in_ok-found.ensures.ready _ c.heal_all.ensures tells))

pub returns-clause-written : goal.returns-clause-written
returns-clause-written g c tells = inr (c.in_ok-found.found, c.in_ok-found.ensures.ready.is tells, c.in_ok-found.ensures.ready.editable)

pub returns-clause-session : goal.returns-clause-session
returns-clause-session g c =
    let looks = c.in_ok-found.ensures.looks in
    healed_session g.H.Host.tells_disks _ _ _ _ c.in_ok-found.found c.in_ok-found.body c.in_ok-found.shared looks c.in_ok-found.ensures.ready c.in-Ok.ensures
    (λ tells. g.met.H.Host.one_each tells c.heal_all.new.host ∙ ap length (c.heal_all.ensures.works.later.sizes ∙ looks.still.later.sizes) ∙ sym (g.met.H.Host.one_each tells c.args.host.now))
    c.of.result c.of.ensures.db c.of.ensures.labels c.of.ensures.draft (c.of.ensures.body ∙ c.kept.ensures)

pub returns-clause-handed : goal.returns-clause-handed
returns-clause-handed g c =
    healing_hands g.H.Host.tells_disks _ _ _ _ c.in_ok-found.found c.in_ok-found.body c.in_ok-found.shared c.in_ok-found.ensures.looks c.in_ok-found.ensures.ready _ c.heal_all.ensures

pub returns-clause-works : goal.returns-clause-works
returns-clause-works g c = works_then (looks_works c.in_ok-found.ensures.looks) c.heal_all.ensures.works (λ is. absurd (cc is))

core_if : (found : Found) (body : List ℕ) (shared : Bool) → IsCoreBody found.db body → IfSome (kept_if shared body) (IsCoreBody found.db)
core_if found body true core = core
core_if found body false core = tt

pub of-requires-clause-core : goal.of-requires-clause-core
of-requires-clause-core g c =
    subst (λ (o : Option (List ℕ)). IfSome o (IsCoreBody c.in_ok-found.found.db)) (sym c.kept.ensures)
    (core_if c.in_ok-found.found c.in_ok-found.body c.in_ok-found.shared c.in_ok-found.ensures.ready.core)
