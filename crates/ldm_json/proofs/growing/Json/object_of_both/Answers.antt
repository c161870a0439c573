use Rattle.std.proofs.Common.{arith, append_assoc}
use Rattle.ldm_json.proofs.TokenLaws.{both_are}
use Rattle.ldm_json.proofs.growing.Json.object_of_both.Goals as goal

pub returns : goal.returns
returns c = let are = both_are c.args.first.now c.args.second.now in grind (arith, append_assoc, are)
