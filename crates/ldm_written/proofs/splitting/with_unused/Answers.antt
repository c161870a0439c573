use Rattle.std.proofs.Common.{◌≡◌, ◌*◌, ◌≤◌, ◌++◌, ◌∙◌, ℕ, List, length, take, sym, ap, subst}
use Rattle.std.proofs.lemmas.List.{with_items_is, take_all}
use Rattle.ldm_written.specs.Written.{IsInUse, AddsUnused}
use Rattle.ldm_frags.specs.Blocks.{block_at}
use Rattle.ldm_written.proofs.HoldEdits.{block_before}
use Rattle.ldm_written.proofs.splitting.with_unused.Goals as goal

-- what was resized begins with the old blocks
begins : (old start resized ys : List ℕ) (size number : ℕ) → start ≡ old → length old ≤ size → resized ≡ take size start ++ ys → IsInUse old number → block_at resized number ≡ block_at old number
begins old start resized ys size number same fits is in_use =
    ap (λ (l : List ℕ). block_at l number) (is ∙ ap (λ (l : List ℕ). take size l ++ ys) same ∙ ap (λ (l : List ℕ). l ++ ys) (take_all size old fits)) ∙ block_before old ys number in_use

pub returns : goal.returns
returns c =
    let out = c.write_rest.new.out in
    subst (λ (l : List ℕ). AddsUnused c.args.old.now c.args.blocks l) (sym (with_items_is c.resize.new.self out (c.write_rest.auto.out ∙ c.deref_mut.ensures.len))) (record {
      size = c.write_rest.auto.out ∙ c.deref_mut.ensures.len ∙ c.in_ok-resize.ensures.len;
      same = λ number in_use.
          c.write_rest.ensures.below number in_use.0 in_use.1
          ∙ begins c.args.old.now c.in_ok-out.out.items c.deref_mut.result.now _ (128 * c.args.blocks) number c.in_ok-out.ensures.items c.requires.more
          (c.deref_mut.ensures.value ∙ c.in_ok-resize.ensures.items) in_use;
      unused = λ number from lt. c.write_rest.ensures.unused number from lt;
    })
