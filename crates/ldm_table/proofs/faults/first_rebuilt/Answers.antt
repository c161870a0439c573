use Rattle.std.proofs.Common.{◌-◌, ℕ, sym, ◌∙◌, ap, arith, Option, is_none}
use Rattle.ldm_dump.proofs.RangeLaws.{find_first, find_nothing}
use Rattle.ldm_table.specs.Faults.{is_rebuilt}
use Rattle.ldm_table.proofs.VolumeLaws.{copied_more}
use Rattle.ldm_table.proofs.faults.first_rebuilt.Goals as goal

pub returns-in_default : goal.returns-in_default
returns-in_default c =
    let first = c.args.first in
    let size = c.args.plan.now.size in
    sym (find_first (is_rebuilt c.args.found.now c.args.plan.now) first (size - first) c.runs.sector c.runs.invariant.from (omega arith) c.runs.invariant.copied
    (ap (λ (o : Option ℕ). is_none o) (sym c.run_at-run.ensures.copy_is ∙ c.in_default.is)))

pub runs-preserved : goal.runs-preserved
runs-preserved c =
    let run = c.run_at-run.ensures in
    let some = run.some in
    let within = run.within in
    let from = c.runs.invariant.from in
    record {
      from = omega (arith, some, from);
      within = omega (arith, within);
      copied = copied_more c.args.found.now c.args.plan.now c.args.first c.runs.sector c.run_at-run.result run (ap (λ (o : Option ℕ). is_none o) c.in-Some.is) c.runs.invariant.from c.runs.invariant.copied;
    }

pub returns : goal.returns
returns c =
    sym (find_nothing (is_rebuilt c.args.found.now c.args.plan.now) c.args.first (c.args.plan.now.size - c.args.first) (λ d low high. c.runs.invariant.copied d low (omega (arith, high))))
