use Rattle.std.proofs.Common.{◌+◌, ◌*◌, ℕ, List, not, sym, ap, ◌∙◌, slice_range}
use Rattle.std.specs.Prelude.{bytes_eq}
use Rattle.std.proofs.lemmas.Bool.{lt-ltb}
use Rattle.ldm_frags.specs.Blocks.{block_at}
use Rattle.ldm_changed.proofs.PlanLaws.{block_piece, short_differs}
use Rattle.ldm_changed.proofs.planning.differs.Goals as goal

pub returns-then-old-at : goal.returns-then-old-at
returns-then-old-at c =
    lt-ltb _ _ c.if-old-at.true ∙ sym (short_differs c.args.old.now c.args.new.now c.args.k c.if-old-at.true c.requires.within)

pub returns-else-old-at : goal.returns-else-old-at
returns-else-old-at c =
    let old = c.args.old.now in
    let new = c.args.new.now in
    let k = c.args.k in
    c.ne.ensures
    ∙ ap (λ (l : List ℕ). not (bytes_eq l (slice_range new (128 * k) (128 * k + 128)))) (block_piece old k)
    ∙ ap (λ (l : List ℕ). not (bytes_eq (block_at old (k + 4)) l)) (block_piece new k)
