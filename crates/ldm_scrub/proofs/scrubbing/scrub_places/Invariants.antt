use Rattle.std.proofs.Common.{◌≡◌, ◌-◌, ◌≤◌, ◌++◌}
use Rattle.std.specs.List.{range_with_len}
use Rattle.ldm_host.specs.Moves.{Still}
use Rattle.ldm_host.specs.Moves.{SameInput}
use Rattle.ldm_scrub.specs.Lines.{bad_lines, bad_of}
use Rattle.ldm_scrub.proofs.scrubbing.scrub_places.Given as goal

abbrev pub invariant-pieces : goal.invariant-pieces
invariant-pieces g l = record {
  still : Still (g.H.Host.seen l.fn.host) (g.H.Host.seen l.host);
  input : SameInput (g.H.Host.seen l.fn.host) (g.H.Host.seen l.host);
  within : l.place ≤ l.all;
  few : l.bad ≤ l.place;
  said : g.H.Host.tells_disks → (g.H.Host.seen l.host).said ≡ (g.H.Host.seen l.fn.host).said ++ bad_lines l.format (g.H.Host.seen l.fn.host).content l.found l.plan (range_with_len 0 l.place);
  count : g.H.Host.tells_disks → l.bad ≡ bad_of (g.H.Host.seen l.fn.host).content l.found l.plan (range_with_len 0 l.place);
}

abbrev pub decreases-pieces : goal.decreases-pieces
decreases-pieces g l = l.all - l.place
