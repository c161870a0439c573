use Rattle.std.proofs.Common.{◌+◌, ◌∙◌, refl, sym, arith}
use Rattle.ldm_frags.proofs.KeptLaws.{kept_fault}
use Rattle.ldm_frags.proofs.joiner.add.Goals as goal

pub keep-requires-clause-sound : goal.keep-requires-clause-sound
keep-requires-clause-sound c =
    sym (kept_fault c.args.pieces.now.items c.args.groups.now c.args.block.now (c.len.result + 4) c.requires.kept (omega arith) (omega arith)) ∙ sym c.in_default.ensures

pub returns-in-Some : goal.returns-in-Some
returns-in-Some c = record {
  kept = tt;
  added = tt;
  stays = refl;
  fault = sym (kept_fault c.args.pieces.now.items c.args.groups.now c.args.block.now (c.len.result + 4) c.requires.kept (omega arith) (omega arith)) ∙ sym c.in-Some.ensures;
}
