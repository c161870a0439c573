use Rattle.std.proofs.Common.{rules, ◌<◌, ℕ, List, length, refl, sym, subst, arith}
use Rattle.ldm_body.proofs.RewriteLaws.{body_size, settled_shut, refill_fails, filled_shut, refills}
use Rattle.ldm_changed.proofs.rewriting.refill_changed.Goals as goal

pub fill_changed-requires-clause-room : goal.fill_changed-requires-clause-room
fill_changed-requires-clause-room g c = (body_size c.requires.body.0 c.args.label.now c.args.change.now.body c.requires.body.1).1

pub fill_changed-requires-clause-closed : goal.fill_changed-requires-clause-closed
fill_changed-requires-clause-closed g c tells =
    settled_shut c.args.disk c.args.label.now (g.H.Host.seen c.args.host.now) c.requires.disk
    c.requires.fits c.requires.settled (c.requires.closed tells)

pub returns-in_err-fill_changed : goal.returns-in_err-fill_changed
returns-in_err-fill_changed g c =
    refill_fails c.args.disk c.args.label.now _ c.requires.disk c.requires.fits c.requires.settled _
    c.args.change.now.body _ _ c.requires.closed c.requires.body
    c.fill_changed.ensures.changes c.fill_changed.ensures.wrote _ c.from_residual.result
    (omega arith) (search rules) (c.in_err-fill_changed.ensures.cause refl)

pub unseal-requires-clause-closed : goal.unseal-requires-clause-closed
unseal-requires-clause-closed g c =
    filled_shut c.args.disk c.args.label.now _ c.requires.disk c.requires.fits c.requires.settled _
    c.args.change.now.body _ _ c.requires.closed c.requires.body
    c.fill_changed.ensures.changes c.fill_changed.ensures.wrote

pub unseal-requires-clause-filled : goal.unseal-requires-clause-filled
unseal-requires-clause-filled g c tells =
    let lt = subst (λ (l : List ℕ). c.args.disk < length l)
    (sym c.fill_changed.ensures.changes.later.sizes) c.requires.disk in (
      c.requires.body.0,
      c.args.change.now.body,
      c.requires.body.1,
      c.in_ok-fill_changed.ensures.filled tells _ (g.met.H.Host.may_stay tells c.fill_changed.new.host
          c.args.disk lt),
    )

pub returns : goal.returns
returns g c =
    refills c.args.disk c.args.label.now _ c.requires.disk c.requires.fits c.requires.settled _
    c.args.change.now.body _ _ c.requires.closed c.requires.body
    c.fill_changed.ensures.changes c.fill_changed.ensures.wrote _ c.unseal.result _
    (λ some. omega arith) c.in_ok-fill_changed.ensures.filled c.unseal.ensures
    (g.met.H.Host.same_length c.fill_changed.new.host c.args.disk)
    (λ told. g.met.H.Host.lengths told c.fill_changed.new.host c.args.disk)
    (λ told. g.met.H.Host.may_stay told c.unseal.new.host c.args.disk)
