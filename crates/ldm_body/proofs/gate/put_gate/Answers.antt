use Rattle.std.proofs.Common.{rules, ◌≡◌, ◌+◌, ◌<◌, ℕ, [], ◌∷◌, length, slice_index, refl, ◌∙◌, ap, subst, arith}
use Rattle.ldm_host.specs.Seen.{image}
use Rattle.ldm_host.specs.Moves.{Writes}
use Rattle.ldm_host.proofs.Relations.{writes_syncs, rose_sooner}
use Rattle.ldm_copy.specs.Copy.{gate_at}
use Rattle.ldm_body.proofs.RewriteLaws.{on_ok_map, area_on, some_sectors, left_byte}
use Rattle.ldm_body.proofs.gate.put_gate.Goals as goal

pub returns-in_err-write_at : goal.returns-in_err-write_at
returns-in_err-write_at g c = record {
  gate = search rules;
  settled = search rules;
  writes = subst (λ (at : ℕ). Writes c.args.disk at 1 (g.H.Host.seen c.args.host.now) (g.H.Host.seen c.write_at.new.self)) c.gate_at-at.ensures.is c.write_at.ensures.writes;
  cause = λ failed. c.in_err-write_at.ensures.cause refl;
}

pub returns : goal.returns
returns g c =
    let seen = g.H.Host.seen in
    let a = seen c.args.host.now in
    let at = c.gate_at-at.result in
    let is : at ≡ gate_at c.args.label.now = c.gate_at-at.ensures.is in
    let sectors = slice_index a.sizes c.args.disk in
    let some = some_sectors c.args.label.now sectors c.requires.fits in
    record {
      gate = λ tells.
          let on = area_on c.args.label.now sectors (image a.content c.args.disk) c.requires.fits (g.met.H.Host.lengths tells c.args.host.now c.args.disk c.requires.disk) in
          let lt : c.args.disk < length a.content = omega (arith, g.met.H.Host.one_each tells c.args.host.now, c.requires.disk) in
          on_ok_map c.sync.result _ _ (λ settled x left.
          ap (λ (k : ℕ). slice_index x k) (let e : gate_at c.args.label.now ≡ at + 0 = omega (arith, is) in e)
          ∙ left_byte c.args.disk at 0 (c.args.byte ∷ []) a (seen c.write_at.new.self) (seen c.sync.new.self) lt (omega (arith, on, some, is))
          (c.in_ok-write_at.ensures.written tells) c.sync.ensures.syncs.content (omega arith) settled x left)
          c.sync.ensures.settled;
      settled = c.sync.ensures.settled;
      writes = subst (λ (at : ℕ). Writes c.args.disk at 1 a (seen c.sync.new.self)) is
          (writes_syncs c.args.disk at 1 a (seen c.write_at.new.self) (seen c.sync.new.self) c.requires.disk c.write_at.ensures.writes c.sync.ensures.syncs);
      cause = λ failed. rose_sooner _ _ _ c.write_at.ensures.writes.later.disk_faults (c.sync.ensures.cause failed);
    }
