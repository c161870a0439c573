use Rattle.std.proofs.Common.{rules, ◌<◌, ℕ, List, length, refl, sym, subst, arith}
use Rattle.ldm_host.proofs.ChangeLaws.{writes_change}
use Rattle.ldm_body.proofs.RewriteLaws.{refill_fails, filled_shut, refills}
use Rattle.ldm_body.proofs.rewriting.refill.Goals as goal

pub returns-in_err-fill : goal.returns-in_err-fill
returns-in_err-fill g c =
    let changes = writes_change _ _ _ _ _ _ _ (omega arith) (omega arith) c.fill.ensures.writes in
    refill_fails c.args.disk c.args.label.now _ c.requires.disk c.requires.fits c.requires.settled _
    c.args.body.now _ _ c.requires.closed c.requires.body changes c.fill.ensures.writes.wrote
    _ c.from_residual.result (omega arith) (search rules) (c.in_err-fill.ensures.cause refl)

pub unseal-requires-clause-closed : goal.unseal-requires-clause-closed
unseal-requires-clause-closed g c =
    let changes = writes_change _ _ _ _ _ _ _ (omega arith) (omega arith) c.fill.ensures.writes in
    filled_shut c.args.disk c.args.label.now _ c.requires.disk c.requires.fits c.requires.settled _
    c.args.body.now _ _ c.requires.closed c.requires.body changes c.fill.ensures.writes.wrote

pub unseal-requires-clause-filled : goal.unseal-requires-clause-filled
unseal-requires-clause-filled g c tells =
    let lt = subst (λ (l : List ℕ). c.args.disk < length l) (sym c.fill.ensures.writes.later.sizes)
    c.requires.disk in (
      c.requires.body.0,
      c.args.body.now,
      c.requires.body.1,
      c.in_ok-fill.ensures.filled tells _
          (g.met.H.Host.may_stay tells c.fill.new.host c.args.disk lt),
    )

pub returns : goal.returns
returns g c =
    let changes = writes_change _ _ _ _ _ _ _ (omega arith) (omega arith) c.fill.ensures.writes in
    refills c.args.disk c.args.label.now _ c.requires.disk c.requires.fits c.requires.settled _
    c.args.body.now _ _ c.requires.closed c.requires.body changes c.fill.ensures.writes.wrote
    _ c.unseal.result _ (λ some. omega (arith, some)) c.in_ok-fill.ensures.filled c.unseal.ensures
    (g.met.H.Host.same_length c.fill.new.host c.args.disk)
    (λ told. g.met.H.Host.lengths told c.fill.new.host c.args.disk)
    (λ told. g.met.H.Host.may_stay told c.unseal.new.host c.args.disk)
