use Rattle.std.proofs.Common.{◌≡◌, take}
use Rattle.ldm_body.specs.Finding.{payloads}
use Rattle.ldm_body.proofs.finding.gather.Given as goal

abbrev pub invariant-loop-k : goal.invariant-loop-k
invariant-loop-k l = l.out.items ≡ payloads l.blocks (take l.k l.numbers)
