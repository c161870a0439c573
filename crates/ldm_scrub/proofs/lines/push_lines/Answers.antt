use Rattle.std.proofs.Common.{◌≡◌, ◌++◌, ◌+◌, if◌then◌else◌, [], List, ℕ, length, ap, sym, ◌∙◌, arith}
use Rattle.std.specs.List.{range_with_len, flat_map}
use Rattle.ldm_scrub.specs.Lines.{bad_line}
use Rattle.ldm_scrub.proofs.CompareLaws.{line_one}
use Rattle.ldm_scrub.proofs.lines.push_lines.Goals as goal

pub marks-preserved : goal.marks-preserved
marks-preserved c = record {
  few = omega (arith, c.push_marked-used.ensures.end);
  so_far = λ bad marked.
      c.push_marked-used.ensures.is (bad (c.args.place + c.marks.i)) (marked c.marks.i (omega arith))
      ∙ (ap (λ (t : List ℕ). t ++ (if bad (c.args.place + c.marks.i) then bad_line c.args.format.now c.args.plan.now (c.args.place + c.marks.i) else [])) (c.marks.invariant.so_far bad marked) ∙ sym (line_one bad (bad_line c.args.format.now c.args.plan.now) c.args.place c.marks.i));
}

pub returns-clause-is : goal.returns-clause-is
returns-clause-is c bad marked =
    let all : c.marks.i ≡ length c.args.marks.now = omega (arith, c.marks-test.false, c.marks.auto.i-end) in
    c.marks.invariant.so_far bad marked ∙ ap (λ (n : ℕ). flat_map (λ p. if bad p then bad_line c.args.format.now c.args.plan.now p else []) (range_with_len c.args.place n)) all
