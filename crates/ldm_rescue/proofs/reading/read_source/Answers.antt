use Rattle.std.proofs.Common.{sym, subst, Contains}
use Rattle.ldm_rescue.specs.Rescued.{source_spots}
use Rattle.ldm_rescue.specs.declared.sources.Source.{Source}
use Rattle.ldm_rescue.proofs.reading.read_source.Goals as goal

pub rebuild-requires-clause-has : goal.rebuild-requires-clause-has
rebuild-requires-clause-has g c s part =
    c.requires.has s (subst (λ (source : Source). Contains (source_spots c.args.found.now c.args.plan.now c.args.sector source) s) (sym c.in-Others.is) part)
