-- What is counted of a run.
use Rattle.std.specs.Prelude.{ℕ, ◌==◌, ◌+◌, ◌-◌, ◌^◌, min, List, Option, Some, None, count_by}
use Rattle.std.specs.Option.{option_map}
use Rattle.ldm_console.specs.declared.meter.Tally.{Tally}
use Rattle.ldm_console.specs.declared.meter.Tally.TheVariants as kinds

-- the lines that were said, where they are counted
abbrev pub lines_in : Tally → Option ℕ
lines_in (kinds.Lines lines) = Some lines
lines_in _ = None

-- as many newlines more, up to the counter's last value
abbrev pub more_lines : List ℕ → Option ℕ → Option ℕ
more_lines bytes lines = option_map (λ n. min (n + count_by (λ c. c == 0x0A) bytes) (2 ^ 64 - 1)) lines
