use Rattle.std.proofs.Common.{◌≤◌, ◌-◌, length}
use Rattle.ldm_run.specs.Heard.{Hears}
use Rattle.ldm_run.proofs.script.hear_script.Given as goal

abbrev pub invariant-hearing : goal.invariant-hearing
invariant-hearing g l = record {
  hears : Hears g.H.Host.tells_talk (g.H.Host.seen l.fn.host) (g.H.Host.seen l.host) l.script.items;
  within : length l.script.items ≤ 1048577;
}

abbrev pub decreases-hearing : goal.decreases-hearing
decreases-hearing g l = 1048577 - length l.script.items
