use Rattle.std.proofs.Common.{◌∙◌, ◌+◌, sym, ap, subst, length, List, slice_range, refl}
use Rattle.std.specs.Result.{is_err}
use Rattle.ldm_host.proofs.Relations.{looks_as, still_itself}
use Rattle.ldm_view.specs.declared.patch.Patch.{Patch}
use Rattle.ldm_view.specs.Patches.{patched, FitAll, Covers}
use Rattle.ldm_view.proofs.CoverLaws.{view_covered}
use Rattle.ldm_view.proofs.ViewLaws.{view_looks, still_carries, lie_still, view_filled}
use Rattle.ldm_view.proofs.view.ViewHost.read_at.Goals as goal

pub returns-then-covers-clause-filled : goal.returns-then-covers-clause-filled
returns-then-covers-clause-filled g c tells =
    let now = c.args.self.now in
    let value = c.deref-then-covers.ensures.value in
    view_covered now.patches.items (g.H.Host.seen now.host) c.args.disk c.args.at (length c.args.buf.now) c.args.buf.now c.lay_all.new.piece
    c.requires.disk c.requires.range (g.met.H.Host.one_each tells now.host) (g.met.H.Host.lengths tells now.host c.args.disk c.requires.disk) now.lie
    (subst (λ (l : List Patch). Covers l c.args.disk c.args.at (length c.args.buf.now)) c.deref.ensures.value (c.covers.ensures c.if-covers.true)) refl
    (λ whole inside fits is. c.lay_all.ensures whole inside (subst (λ (l : List Patch). FitAll l c.args.disk (length whole)) (sym value) fits) is
    ∙ ap (λ (l : List Patch). slice_range (patched l c.args.disk whole) c.args.at (c.args.at + length c.args.buf.now)) value)

pub returns-then-covers-clause-looks : goal.returns-then-covers-clause-looks
returns-then-covers-clause-looks g c =
    let now = c.args.self.now in
    let a = g.H.Host.seen now.host in
    view_looks g.H.Host.tells_disks now.patches.items now.wrote.items now.refused a a _
    (record { still = still_itself a (g.met.H.Host.counts_now now.host) (g.met.H.Host.only_now now.host); quiet = record { said = refl; heard = refl; input = refl }; cause = λ failed. absurd (cc failed) })

pub invariant_of-self : goal.invariant_of-self
invariant_of-self g c =
    let now = c.args.self.now in
    let a = g.H.Host.seen now.host in
    let b = g.H.Host.seen c.read_at.new.self in
    let still = c.read_at.ensures.looks.still in
    record {
      counted = now.counted ∙ ap length (sym still.later.sizes);
      lie = lie_still now.patches.items a b still now.lie;
      fixed = now.fixed;
      unrefused = now.unrefused;
      still = still_carries g.S.Start.start a b now.still still;
    }

pub returns-in-Err-clause-looks : goal.returns-in-Err-clause-looks
returns-in-Err-clause-looks g c =
    let now = c.args.self.now in
    looks_as (view_looks g.H.Host.tells_disks now.patches.items now.wrote.items now.refused (g.H.Host.seen now.host) (g.H.Host.seen c.read_at.new.self) _ c.read_at.ensures.looks) (λ failed. ap is_err c.in-Err.is)

pub invariant_of-self-in_default : goal.invariant_of-self-in_default
invariant_of-self-in_default g c =
    let now = c.args.self.now in
    let a = g.H.Host.seen now.host in
    let b = g.H.Host.seen c.read_at.new.self in
    let still = c.read_at.ensures.looks.still in
    record {
      counted = now.counted ∙ ap length (sym still.later.sizes);
      lie = lie_still now.patches.items a b still now.lie;
      fixed = now.fixed;
      unrefused = now.unrefused;
      still = still_carries g.S.Start.start a b now.still still;
    }

pub returns-clause-filled : goal.returns-clause-filled
returns-clause-filled g c tells =
    let now = c.args.self.now in
    view_filled now.patches.items (g.H.Host.seen now.host) c.args.disk c.args.at (length c.args.buf.now) c.read_at.new.buf c.lay_all-2.new.piece
    c.requires.disk c.requires.range (g.met.H.Host.one_each tells now.host) (g.met.H.Host.lengths tells now.host c.args.disk c.requires.disk) now.lie
    c.read_at.auto.buf (c.in_default.ensures.filled tells)
    (λ whole inside fits is. c.lay_all-2.ensures whole inside (subst (λ (l : List Patch). FitAll l c.args.disk (length whole)) (sym c.deref-2.ensures.value) fits) is
    ∙ ap (λ (l : List Patch). slice_range (patched l c.args.disk whole) c.args.at (c.args.at + length c.read_at.new.buf)) c.deref-2.ensures.value)

pub returns-clause-looks : goal.returns-clause-looks
returns-clause-looks g c =
    let now = c.args.self.now in
    looks_as (view_looks g.H.Host.tells_disks now.patches.items now.wrote.items now.refused (g.H.Host.seen now.host) (g.H.Host.seen c.read_at.new.self) _ c.read_at.ensures.looks) (λ failed. absurd (cc failed))
