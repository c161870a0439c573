use Rattle.std.proofs.Common.{map}
use Rattle.ldm_body.specs.Finding.{stored_of}
use Rattle.ldm_body.proofs.FindLaws.{IsFoundUpTo}
use Rattle.ldm_body.proofs.finding.find_all.Given as goal

abbrev pub invariant-loop-k : goal.invariant-loop-k
invariant-loop-k l = IsFoundUpTo l.blocks l.k (map stored_of l.list.items)
