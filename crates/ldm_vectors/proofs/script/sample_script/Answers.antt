use Rattle.std.proofs.Common.{◌≡◌, ℕ, List, refl, sym, ap, ◌∙◌, arith}
use Rattle.ldm_vectors.specs.Script.{advanced, lines_of_seed, script_of}
use Rattle.ldm_vectors.proofs.DrawLaws.{drawn, line_more, no_line}
use Rattle.ldm_vectors.proofs.SizeLaws.{script_short}
use Rattle.ldm_vectors.proofs.script.sample_script.Goals as goal

pub loop-line-init : goal.loop-line-init
loop-line-init c = (refl, c.new-script.ensures.items ∙ sym (no_line c.args.seed))

pub loop-line-preserved : goal.loop-line-preserved
loop-line-preserved c =
    let first = c.next-kind.ensures.state ∙ ap advanced c.loop-line.invariant.0 in
    let second = c.next-value.ensures.state in (
      drawn c.args.seed c.loop-line.line _ _ first second,
      c.in_ok-extend_from_slice.ensures.items
          ∙ line_more c.args.seed c.loop-line.line _ _ first second _ _ _ _ c.next-kind.ensures.is c.next-value.ensures.is (c.as_bytes.ensures.value ∙ c.in_ok-text.ensures) c.loop-line.invariant.1,
    )

all_lines : (seed lines : ℕ) (script : List ℕ) → lines ≡ 200 → script ≡ lines_of_seed seed lines → script ≡ script_of seed
all_lines seed lines script done is = is ∙ ap (lines_of_seed seed) done

pub returns-clause-is : goal.returns-clause-is
returns-clause-is c = all_lines c.args.seed c.loop-line.line c.loop-line.script.items (omega arith) c.loop-line.invariant.1

pub returns-clause-short : goal.returns-clause-short
returns-clause-short c = rw (all_lines c.args.seed c.loop-line.line c.loop-line.script.items (omega arith) c.loop-line.invariant.1) (script_short c.args.seed)
