use Rattle.std.proofs.Common.{◌≡◌, ℕ, ◌∙◌, arith, inl, inr, subst}
use Rattle.std.proofs.lemmas.Bool.{cases_lt}
use Rattle.ldm_written.specs.Written.{unused_block}
use Rattle.ldm_frags.specs.Blocks.{block_at}
use Rattle.ldm_written.proofs.writing.write_rest.Goals as goal

pub loop-number-preserved : goal.loop-number-preserved
loop-number-preserved c =
    let number = c.loop-number.number in
    let out = c.write_unused.new.out in
    record {
      unused = λ b from lt. elim (cases_lt b number) [
        | inl below ↦ c.write_unused.ensures.others b (omega arith) (λ e. omega arith) ∙ c.loop-number.invariant.unused b from below
        | inr above ↦
            let same : number ≡ b = omega arith in
            subst (λ (n : ℕ). block_at out n ≡ unused_block n) same c.write_unused.ensures.here
      ];
      below = λ b from lt. c.write_unused.ensures.others b from (λ e. omega arith) ∙ c.loop-number.invariant.below b from lt;
    }
