use Rattle.std.proofs.Common.{◌≡◌, ◌*◌}
use Rattle.ldm_vectors.specs.Script.{state_after, lines_of_seed}
use Rattle.ldm_vectors.proofs.script.sample_script.Given as goal

abbrev pub invariant-loop-line : goal.invariant-loop-line
invariant-loop-line l = (l.draws.state ≡ state_after l.seed (2 * l.line)) × (l.script.items ≡ lines_of_seed l.seed l.line)
