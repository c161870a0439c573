use Rattle.ldm_space.proofs.GapLaws.{IsWalked}
use Rattle.ldm_space.proofs.gaps.FreeMap.beside.Given as goal

abbrev pub invariant-loop-t : goal.invariant-loop-t
invariant-loop-t l = IsWalked l.t-items l.disk l.data_size l.t-index l.at l.gaps.items
