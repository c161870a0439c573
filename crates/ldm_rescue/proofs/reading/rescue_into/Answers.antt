use Rattle.std.proofs.Common.{ℕ, List, sym, subst, arith, is_some}
use Rattle.ldm_rescue.specs.Rescued.{sources_in_order, IsRescued}
use Rattle.ldm_host.specs.Failed.{failed_since}
use Rattle.ldm_rescue.proofs.RescueLaws.{placed_nth}
use Rattle.ldm_rescue.proofs.reading.rescue_into.Goals as goal

pub returns-clause-bytes : goal.returns-clause-bytes
returns-clause-bytes g c tells =
    let old = g.H.Host.seen c.args.host.now in
    let new = g.H.Host.seen c.rescue_sector.new.host in
    subst (λ (s : List ℕ). IsRescued old.content (failed_since old new) (sources_in_order c.args.found.now c.args.plan.now c.args.sector) s (is_some c.rescue_sector.result))
    (sym (placed_nth c.args.out.now c.rescue_sector.new.out _ c.args.number (omega (arith, c.requires.room)) (omega (arith, c.rescue_sector.auto.out))))
    (c.rescue_sector.ensures.bytes tells)
