use Rattle.std.proofs.Common.{◌≡◌, ℕ, List, ◌+◌, ◌∙◌, length, slice_range, slice_get, take, Some, refl, sym, ap, arith}
use Rattle.std.proofs.lemmas.Option.{slice_get_read}
use Rattle.std.proofs.lemmas.List.{take_all}
use Rattle.ldm_view.specs.declared.patch.Patch.{Patch}
use Rattle.ldm_view.specs.Patches.{laid, patched, with_patch}
use Rattle.ldm_view.specs.PatchLaws.{length-patched}
use Rattle.ldm_view.proofs.PatchedLaws.{patched_none, patched_more, with_here, with_other}
use Rattle.ldm_view.proofs.patch.lay_all.Goals as goal
use Rattle.ldm_view.proofs.patch.lay_all.Goals.{then-p-disk, else-p-disk}

pub loop-p-init : goal.loop-p-init
loop-p-init c image inside fits is = is ∙ ap (λ (l : List ℕ). slice_range l c.args.from (c.args.from + length c.args.piece.now)) (sym (patched_none c.args.disk image))

pub lay-requires-clause-patch_end : goal.lay-requires-clause-patch_end
lay-requires-clause-patch_end c =
    let at : slice_get c.args.patches.now c.loop-p.p-index ≡ Some c.p-item.result = slice_get_read c.args.patches.now (length c.args.patches.now) c.loop-p.p-index c.p-item.result refl c.loop-p-test.true c.p-item.is in
    omega (arith, c.requires.patch_end c.loop-p.p-index c.p-item.result at c.if-p-disk.true, ap length c.as_slice.ensures.value)

pub loop-p-preserved : goal.loop-p-preserved
loop-p-preserved c image inside fits is = elim c.if-p-disk.branch [
  | then-p-disk w ↦
      let size : length c.loop-p.piece ≡ length c.args.piece.now = c.loop-p.auto.piece in
      let over = w.lay.ensures before (omega (arith, len)) (omega (arith, len, fits c.loop-p.p-index p at w.if-p-disk.true, ap length w.as_slice.ensures.value))
      (was ∙ ap (λ (n : ℕ). slice_range before c.args.from (c.args.from + n)) (sym size)) in
      w.piece-is ∙ over
      ∙ ap (λ (n : ℕ). slice_range (laid before p.at w.as_slice.result.now) c.args.from (c.args.from + n)) size
      ∙ ap (λ (l : List ℕ). piece_of (laid before p.at l)) w.as_slice.ensures.value
      ∙ ap piece_of (sym (more ∙ with_here c.args.disk p before w.if-p-disk.true))
  | else-p-disk w ↦ w.piece-is ∙ was ∙ ap piece_of (sym (more ∙ with_other c.args.disk p before w.if-p-disk.false))
]
  where
    p : Patch
    p = c.p-item.result

    at : slice_get c.args.patches.now c.loop-p.p-index ≡ Some p
    at = slice_get_read c.args.patches.now (length c.args.patches.now) c.loop-p.p-index p refl c.loop-p-test.true c.p-item.is

    before : List ℕ
    before = patched (take c.loop-p.p-index c.args.patches.now) c.args.disk image

    len : length before ≡ length image
    len = length-patched (take c.loop-p.p-index c.args.patches.now) c.args.disk image

    piece_of : List ℕ → List ℕ
    piece_of l = slice_range l c.args.from (c.args.from + length c.args.piece.now)

    was : c.loop-p.piece ≡ piece_of before
    was = c.loop-p.invariant image inside fits is

    more : patched (take (c.loop-p.p-index + 1) c.args.patches.now) c.args.disk image ≡ with_patch c.args.disk p before
    more = patched_more c.args.patches.now c.loop-p.p-index p c.args.disk image at

pub returns : goal.returns
returns c image inside fits is =
    c.loop-p.invariant image inside fits is
    ∙ ap (λ (l : List Patch). slice_range (patched l c.args.disk image) c.args.from (c.args.from + length c.args.piece.now)) (take_all c.loop-p.p-index c.args.patches.now c.loop-p-test.false)
