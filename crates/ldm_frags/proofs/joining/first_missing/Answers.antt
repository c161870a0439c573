use Rattle.std.proofs.Common.{◌≡◌, ◌∙◌, ℕ, ap, sym, arith}
use Rattle.ldm_frags.specs.Blocks.{count}
use Rattle.ldm_frags.specs.Faults.{first_below, missing_fault}
use Rattle.ldm_frags.specs.Kept.{blocks_of}
use Rattle.ldm_frags.proofs.Below.{first_there}
use Rattle.ldm_frags.proofs.KeptLaws.{count_of}
use Rattle.ldm_frags.proofs.joining.first_missing.Goals as goal

pub returns-in-Some : goal.returns-in-Some
returns-in-Some c =
    let blocks = blocks_of c.args.pieces.now in
    sym (first_there (count blocks) c.loop-k.k (missing_fault blocks) c.in-Some.fault (omega (arith, count_of c.args.pieces.now)) c.loop-k.invariant (sym c.in-Some.ensures))

pub returns : goal.returns
returns c =
    let blocks = blocks_of c.args.pieces.now in
    let end : count blocks ≡ c.loop-k.k = omega (arith, count_of c.args.pieces.now) in
    sym (ap (λ (n : ℕ). first_below n (missing_fault blocks)) end ∙ c.loop-k.invariant)
