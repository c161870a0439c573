use Rattle.std.proofs.Common.{◌≡◌, arith, ap}
use Rattle.ldm_vmdb.specs.declared.header.Header.{Header}
use Rattle.ldm_group_tests.proofs.gate.rewrites.Goals as goal

pub rewrite-requires-clause-body : goal.rewrite-requires-clause-body
rewrite-requires-clause-body c =
    let made = (c.in_ok-body.ensures {u = tt}).body in
    let last : c.header.result.now.last ≡ c.args.db.now.header.last = ap (λ (h : Header). h.last) c.header.ensures in (
      c.args.db.now,
      record {
        is = made.is;
        rising = made.rising;
        low = made.low;
        high = omega (arith, last, c.if-last-gt8192.false);
        fits = omega (arith, last, c.if-from-label.false);
      },
    )
