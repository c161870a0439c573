use Rattle.std.proofs.Common.{◌≡◌, ◌+◌, ◌-◌, sym, ap, ◌∙◌, arith}
use Rattle.std.proofs.lemmas.Bool.{both_ways}
use Rattle.ldm_frags.specs.Blocks.{group, part, parts}
use Rattle.ldm_body.proofs.FindLaws.{held_unused, held_later}
use Rattle.ldm_body.proofs.finding.look_at.Goals as goal
use Rattle.ldm_body.proofs.finding.look_at.Goals.{else-get_u16-eq0-via-then-get_u16-eq0+else-get_u32-k, else-get_u16-eq0-via-else-get_u16-eq0}

pub returns-then-parts-eq0 : goal.returns-then-parts-eq0
returns-then-parts-eq0 c ss sound holds =
    both_ways c.is_unused.result c.if-is_unused.false (c.is_unused.ensures.1 (held_unused c.args.blocks.now ss c.args.k c.requires.small c.requires.within holds (sym c.get_u16-parts.ensures ∙ c.if-parts-eq0.true)))

pub returns : goal.returns
returns c ss sound holds =
    let blocks = c.args.blocks.now in
    let k = c.args.k in
    let many : c.get_u16-parts.result ≡ parts blocks k = c.get_u16-parts.ensures in
    let at : k + 4 - 4 ≡ k = omega arith in
    both_ways c.is_later.result c.if-is_later.false (c.is_later.ensures.1 (held_later blocks ss k c.requires.small c.requires.within holds (omega (arith, many, c.if-parts-eq0.false)) (λ first.
    elim c.else-get_u16-eq0.branch [
      | else-get_u16-eq0-via-then-get_u16-eq0+else-get_u32-k w ↦
          (let is : w.get_u32.result ≡ group blocks k = w.get_u32.ensures in let here : group blocks k ≡ k + 4 = ap (group blocks) (sym at) ∙ first.group_is in absurd (omega (arith, is, here, w.if-get_u32-k.false)))
      | else-get_u16-eq0-via-else-get_u16-eq0 w ↦
          (let is : c.get_u16.result ≡ part blocks k = c.get_u16.ensures in let here : part blocks k ≡ 0 = ap (part blocks) (sym at) ∙ first.part_is in absurd (omega (arith, is, here, w.if-get_u16-eq0.false)))
    ])))
