use Rattle.std.proofs.Common.{◌≤◌, List, length, sym, subst, refl, arith}
use Rattle.ldm_frags.specs.declared.blocks.Piece.{Piece}
use Rattle.ldm_frags.proofs.KeptLaws.{kept_none, blocks_none, fed_none}
use Rattle.ldm_frags.proofs.joiner.Joiner.new.Goals as goal

pub invariant_of-result : goal.invariant_of-result
invariant_of-result c = record {
  few = c.requires;
  within = subst (λ (x : List Piece). length x ≤ c.args.blocks) (sym c.in_ok-with_capacity.ensures.items) (omega arith);
  kept = λ going. kept_none c.in_ok-with_capacity.field-0.items c.new.result c.in_ok-with_capacity.ensures.items c.new.ensures.empty;
}

pub returns-clause-fed : goal.returns-clause-fed
returns-clause-fed c = fed_none _ (blocks_none c.in_ok-with_capacity.field-0.items c.in_ok-with_capacity.ensures.items) refl
