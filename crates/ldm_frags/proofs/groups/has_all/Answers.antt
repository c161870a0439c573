use Rattle.std.proofs.Common.{◌≡◌, ◌∙◌, ℕ, ap, sym, is_some, arith}
use Rattle.std.specs.Ordering.{nat_cmp}
use Rattle.std.specs.BTreeMap.{get}
use Rattle.ldm_frags.specs.Blocks.{all_below}
use Rattle.ldm_frags.specs.Groups.{part_place}
use Rattle.ldm_frags.proofs.Below.{not_all, all_more}
use Rattle.ldm_frags.proofs.groups.has_all.Goals as goal

pub returns-then-is_none : goal.returns-then-is_none
returns-then-is_none c =
    sym (not_all c.args.parts c.loop-part.part (λ p. is_some (part_place (get nat_cmp c.args.groups.now c.args.number) p)) (omega arith) (sym (ap is_some c.place.ensures) ∙ c.if-is_none.ensures))

pub loop-part-preserved : goal.loop-part-preserved
loop-part-preserved c =
    all_more c.loop-part.part (λ p. is_some (part_place (get nat_cmp c.args.groups.now c.args.number) p)) c.loop-part.invariant (sym (ap is_some c.place.ensures) ∙ c.if-is_none.ensures)

pub returns : goal.returns
returns c =
    let end : c.loop-part.part ≡ c.args.parts = omega arith in
    sym (ap (λ (n : ℕ). all_below n (λ p. is_some (part_place (get nat_cmp c.args.groups.now c.args.number) p))) (sym end) ∙ c.loop-part.invariant)
