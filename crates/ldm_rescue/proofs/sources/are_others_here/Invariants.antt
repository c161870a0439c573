use Rattle.std.proofs.Common.{◌≡◌, ℕ, ◌<◌, true}
use Rattle.ldm_dump.specs.Sources.{is_beside}
use Rattle.ldm_rescue.proofs.sources.are_others_here.Given as goal

abbrev pub invariant-columns : goal.invariant-columns
invariant-columns l = (c : ℕ) → c < l.column → is_beside l.found l.plan l.sector c ≡ true
