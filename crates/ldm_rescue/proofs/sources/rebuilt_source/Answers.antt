use Rattle.std.proofs.Common.{sym, ◌∙◌, ap, Bool, Some, None, if◌then◌else◌}
use Rattle.ldm_dump.specs.Sources.{other_spots}
use Rattle.ldm_dump.proofs.RunLaws.{not_rebuilt}
use Rattle.ldm_rescue.proofs.sources.rebuilt_source.Goals as goal

pub returns-in_default : goal.returns-in_default
returns-in_default c = record {
  is = ap (λ (b : Bool). if b then Some (other_spots c.args.found.now c.args.plan.now c.args.sector) else None)
      (sym (not_rebuilt c.args.found.now c.args.plan.now c.args.sector (λ is. c.in_default.not-Raid5 (c.shape.ensures ∙ is))));
  raid5 = λ is. absurd cc;
}
