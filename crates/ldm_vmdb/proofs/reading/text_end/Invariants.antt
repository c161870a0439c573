use Rattle.std.proofs.Common.{◌≡◌, ◌+◌, ◌==◌, drop}
use Rattle.std.specs.List.{position_or_len}
use Rattle.ldm_vmdb.proofs.reading.text_end.Given as goal

abbrev pub invariant-loop-place : goal.invariant-loop-place
invariant-loop-place l = position_or_len (λ byte. byte == 0) l.field ≡ l.place + position_or_len (λ byte. byte == 0) (drop l.place l.field)
