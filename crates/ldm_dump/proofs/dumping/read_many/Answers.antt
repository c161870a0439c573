use Rattle.std.proofs.Common.{refl, ◌*◌, ◌≤◌, length, sym, arith}
use Rattle.ldm_host.proofs.Relations.{looks_itself, looks_then, looks_as}
use Rattle.ldm_dump.proofs.ByteLaws.{no_text, text_step}
use Rattle.ldm_dump.proofs.dumping.read_many.Goals as goal

pub runs-init : goal.runs-init
runs-init g c =
    let host = g.H.Host.seen c.args.host.now in
    record {
      looks = looks_as (looks_itself host (g.met.H.Host.counts_now c.args.host.now) (g.met.H.Host.only_now c.args.host.now)) (λ is. absurd is);
      few = omega arith;
      bytes = λ tells. sym (no_text host.content c.args.found.now c.args.plan.now c.args.sector);
    }

pub runs-preserved : goal.runs-preserved
runs-preserved g c =
    let old = g.H.Host.seen c.args.host.now in
    let next = c.in_ok-count.ensures in
    let here : 512 * c.runs.count ≤ length c.runs.out = omega arith in
    record {
      looks = looks_then c.runs.invariant.looks next.looks (λ is. absurd is);
      few = omega (arith, next.room);
      bytes = λ tells. text_step old.content (g.H.Host.seen c.runs.host).content c.args.found.now c.args.plan.now c.args.sector c.runs.count c.in_ok-count.field-0 c.runs.out c.read_some.new.out _
          c.runs.invariant.looks.still.content here (omega (arith, next.room)) (c.runs.invariant.bytes tells) (next.bytes tells);
    }

pub returns-in_err-count-clause-looks : goal.returns-in_err-count-clause-looks
returns-in_err-count-clause-looks g c = looks_then c.runs.invariant.looks c.in_err-count.ensures.looks (λ is. refl)
