use Rattle.std.proofs.Common.{arith, ◌+◌, List, ℕ, sym, ◌∙◌, ap, drop, length, length-drop, Some, None}
use Rattle.ldm_words.specs.Names.{spelled}
use Rattle.ldm_words.proofs.SpelledLaws.{onto, one_more, none_more, at_end, tail_unit, whole_tail}
use Rattle.ldm_words.proofs.name.spell.Goals as goal

pub returns-in_default : goal.returns-in_default
returns-in_default c =
    none_more c.loop-at.name.items c.args.word.now c.loop-at.at c.loop-at-test.true (tail_unit c.loop-at.at c.args.word.now None c.in_default.ensures.unit) ∙ c.loop-at.invariant.so_far

pub loop-at-preserved : goal.loop-at-preserved
loop-at-preserved c =
    let word = c.args.word.now in
    let at = c.loop-at.at in
    record {
      inside = omega (arith, c.in-Some.ensures.within.1, ap length (whole_tail at word), length-drop at word, c.loop-at.invariant.inside);
      so_far =
          ap (λ (l : List ℕ). onto l (spelled (drop (at + c.in-Some.len) word))) c.in_ok-push.ensures.items
          ∙ sym (one_more c.loop-at.name.items word at c.in-Some.byte c.in-Some.len c.loop-at-test.true (tail_unit at word (Some (c.in-Some.byte, c.in-Some.len)) c.in-Some.ensures.unit))
          ∙ c.loop-at.invariant.so_far;
    }

pub returns : goal.returns
returns c = ap Some c.from_vec.ensures ∙ at_end c.loop-at.name.items c.args.word.now c.loop-at.at (omega arith) ∙ c.loop-at.invariant.so_far
