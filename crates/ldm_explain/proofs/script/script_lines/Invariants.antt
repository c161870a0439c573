use Rattle.std.proofs.Common.{length}
use Rattle.ldm_edits.specs.Steps.{IsGood}
use Rattle.ldm_explain.proofs.script.script_lines.Given as goal

abbrev pub invariant-lines : goal.invariant-lines
invariant-lines l = record { good : IsGood l.labels (record { db = l.db; draft = l.draft }) }

abbrev pub decreases-lines : goal.decreases-lines
decreases-lines l = length l.rest
