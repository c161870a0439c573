use Rattle.std.proofs.Common.{◌≡◌, ℕ, [], Option, subst, arith}
use Rattle.ldm_rescue.specs.Rescued.{sources_in_order, IsLastUnread}
use Rattle.ldm_host.specs.Failed.{failed_since}
use Rattle.ldm_rescue.proofs.SourceLaws.{first_absent}
use Rattle.ldm_rescue.proofs.RescueLaws.{rescued_lost, zeros_whole}
use Rattle.ldm_rescue.proofs.reading.rescue_sector.Goals as goal

pub returns-in-Err-Some-clause-bytes : goal.returns-in-Err-Some-clause-bytes
returns-in-Err-Some-clause-bytes g c tells =
    rescued_lost (g.H.Host.seen c.args.host.now).content (failed_since (g.H.Host.seen c.args.host.now) (g.H.Host.seen c.try_turns.new.host)) (sources_in_order c.args.found.now c.args.plan.now c.args.sector) c.clear.new.out
    (c.in-Err-Some.ensures.tried tells).0
    (zeros_whole c.clear.new.out 512 (omega (arith, c.clear.auto.out, c.try_turns.auto.out, c.requires.size)) (λ j lt. c.clear.ensures j (omega (arith, lt, c.try_turns.auto.out, c.requires.size))))

pub returns-in-Err-None-clause-bytes : goal.returns-in-Err-None-clause-bytes
returns-in-Err-None-clause-bytes g c tells =
    rescued_lost (g.H.Host.seen c.args.host.now).content (failed_since (g.H.Host.seen c.args.host.now) (g.H.Host.seen c.try_turns.new.host)) (sources_in_order c.args.found.now c.args.plan.now c.args.sector) c.clear-in-Err-None.new.out
    (c.in-Err-None.ensures.tried tells).0
    (zeros_whole c.clear-in-Err-None.new.out 512 (omega (arith, c.clear-in-Err-None.auto.out, c.try_turns.auto.out, c.requires.size)) (λ j lt. c.clear-in-Err-None.ensures j (omega (arith, lt, c.try_turns.auto.out, c.requires.size))))

pub returns-in-Err-None-clause-cause : goal.returns-in-Err-None-clause-cause
returns-in-Err-None-clause-cause g c tells =
    let all = sources_in_order c.args.found.now c.args.plan.now c.args.sector in
    let failed = failed_since (g.H.Host.seen c.args.host.now) (g.H.Host.seen c.try_turns.new.host) in
    let none : all ≡ [] = subst (λ (o : Option ℕ). IsLastUnread failed all o) c.in-Err-None.field-0-is (c.in-Err-None.ensures.tried tells).1 in
    record {
      first = c.first_disk.ensures.is;
      absent = first_absent c.args.found.now c.args.plan.now c.args.sector none c.first_disk.ensures.some;
      none = none;
    }
