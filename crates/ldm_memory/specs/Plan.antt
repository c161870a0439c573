-- Which calls of a host in memory fail.
use Rattle.std.specs.Prelude.{ℕ, ◌+◌, ◌-◌, ◌^◌, ◌==◌, min, nat_lt, List, [], Bool, if◌then◌else◌}
use Rattle.std.specs.List.{list_any}
use Rattle.ldm_memory.specs.declared.outcome.Outcome.{Outcome}
use Rattle.ldm_memory.specs.declared.outcome.Outcome.TheVariants.{Whole, Half, Nothing}

pub record Plan : Type 0 where
  -- the number of the last call, from 1 on; 0 before the first
  pub number : ℕ
  -- the numbers of the calls that fail
  pub chosen : List ℕ
  -- each call with a greater number fails too
  pub stop : ℕ

-- No call was made, none is chosen to fail, and none is past the stop.
abbrev pub no_failures : Plan
no_failures = record { number = 0; chosen = []; stop = 2 ^ 64 - 1 }

-- one more, up to the counter's last value
abbrev pub next : ℕ → ℕ
next count = min (count + 1) (2 ^ 64 - 1)

-- one call more
abbrev pub next_plan : Plan → Plan
next_plan plan = record { number = next plan.number; chosen = plan.chosen; stop = plan.stop }

-- the last call is past the stop
abbrev pub is_past : Plan → Bool
is_past plan = nat_lt plan.stop plan.number

-- the last call was chosen to fail
abbrev pub is_chosen : Plan → Bool
is_chosen plan = list_any (λ call. call == plan.number) plan.chosen

-- How the last call ends, where it finds memory: it takes the whole of its bytes, or half of them and fails, or none and
-- fails.
abbrev pub outcome_of : Plan → Outcome
outcome_of plan = if is_past plan then Nothing else if is_chosen plan then Half else Whole
