use Rattle.std.proofs.Common.{◌≡◌, ◌+◌, take, All}
use Rattle.ldm_vmdb.specs.Parts.{blocks_needed}
use Rattle.ldm_written.specs.Written.{IsPlaced, laid_in_order}
use Rattle.ldm_written.proofs.splitting.write_records.Given as goal

abbrev pub invariant-loop-payload : goal.invariant-loop-payload
invariant-loop-payload l = record {
  next : l.number ≡ 4 + blocks_needed (take l.payload-index l.payloads);
  placed : All (IsPlaced l.out) (laid_in_order 4 (take l.payload-index l.payloads));
}
