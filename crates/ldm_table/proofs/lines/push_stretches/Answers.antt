use Rattle.std.proofs.Common.{sym, ◌∙◌, arith}
use Rattle.std.proofs.lemmas.Grind.{common_steps}
use Rattle.ldm_dump.proofs.ReadLaws.{on_ok}
use Rattle.ldm_table.proofs.LineLaws.{text_joined, text_apart, text_begun, text_ended, no_stretches}
use Rattle.ldm_table.proofs.lines.push_stretches.Goals as goal

pub stretches-init : goal.stretches-init
stretches-init g c = grind (arith, text_begun)

pub stretches-preserved-then-is_behind : goal.stretches-preserved-then-is_behind
stretches-preserved-then-is_behind g c = grind (arith, text_joined)

pub stretches-preserved : goal.stretches-preserved
stretches-preserved g c =
    let is = c.stretch_at-next.ensures in
    let within = is.within in
    let from = c.stretches.invariant.from in
    record {
      text = text_apart c.args.words.now c.args.found.now c.args.plan.now c.stretches.text c.push_stretch.new.text _ c.stretches.sector c.stretches.last c.stretch_at-next.result is (sym c.is_behind.ensures ∙ c.if-is_behind.false) c.stretches.invariant.text c.in_ok-push_stretch.ensures;
      from = omega (arith, from);
      within = omega (arith, within);
      few = omega arith;
    }

pub overflow_add-sector : goal.overflow_add-sector
overflow_add-sector g c = (let within = c.stretch_at-last.ensures.within in omega (arith, within))

pub returns : goal.returns
returns g c = grind (arith, common_steps, no_stretches, on_ok, text_ended)
