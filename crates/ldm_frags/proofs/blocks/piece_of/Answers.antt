use Rattle.std.proofs.Common.{◌∙◌, ℕ, List, Bor, length, ap, arith}
use Rattle.ldm_frags.proofs.KeptLaws.{payload_length}
use Rattle.ldm_frags.proofs.blocks.piece_of.Goals as goal
use Rattle.ldm_frags.proofs.blocks.piece_of.Goals.{then-head-gt0, else-head-gt0}

pub returns-clause-whole : goal.returns-clause-whole
returns-clause-whole c = record {
  group = omega arith;
  part = omega arith;
  parts = omega arith;
  full = λ used. elim c.if-head-gt0.branch [
    | then-head-gt0 w ↦ ap length (c.in_ok-payload.ensures ∙ ap (λ (b : Bor (List ℕ)). b.now) w.kept-is ∙ w.payload-kept.ensures) ∙ payload_length c.args.block.now (omega arith)
    | else-head-gt0 w ↦ absurd (omega arith)
  ];
}
