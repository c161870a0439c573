use Rattle.std.proofs.Common.{◌≡◌, ℕ, ◌<◌, ◌≤◌, true, false, take}
use Rattle.ldm_space.specs.Free.{taken_in, is_taken}
use Rattle.ldm_space.proofs.free.past_all.Given as goal

abbrev pub invariant-loop-r : goal.invariant-loop-r
invariant-loop-r l = record {
  not_before : l.from ≤ l.at;
  passed : (q : ℕ) → l.from ≤ q → q < l.at → is_taken (taken_in l.records) l.disk l.len q ≡ true;
  free : l.at ≡ l.from → is_taken (taken_in (take l.r-index l.records)) l.disk l.len l.from ≡ false;
}
