use Rattle.std.proofs.Common.{◌-◌, ◌≤◌, length}
use Rattle.ldm_changed.proofs.FillLaws.{IsFilledUpTo}
use Rattle.ldm_changed.proofs.filling.fill_changed.Given as goal

abbrev pub invariant-loop-k : goal.invariant-loop-k
invariant-loop-k g l = record {
  filled : IsFilledUpTo g.H.Host.tells_disks l.disk l.at l.body l.numbers l.k (g.H.Host.seen l.fn.host) (g.H.Host.seen l.host);
  within : l.k ≤ length l.numbers;
}

abbrev pub decreases-loop-k : goal.decreases-loop-k
decreases-loop-k g l = length l.initial.numbers - l.k
