use Rattle.std.proofs.Common.{◌≡◌, take, ◌≤◌, ◌*◌}
use Rattle.ldm_vmdb.specs.Parts.{blocks_needed}
use Rattle.ldm_written.proofs.splitting.need_of.Given as goal

abbrev pub invariant-loop-payload : goal.invariant-loop-payload
invariant-loop-payload l = (l.need ≡ blocks_needed (take l.payload-index l.payloads)) × (l.need ≤ 4 * l.payload-index)
