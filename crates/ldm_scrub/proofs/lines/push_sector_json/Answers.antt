use Rattle.std.proofs.Common.{arith, append_assoc}
use Rattle.ldm_scrub.proofs.LineLaws.{differing_is}
use Rattle.ldm_scrub.proofs.lines.push_sector_json.Goals as goal

pub returns-clause-is : goal.returns-clause-is
returns-clause-is c = let is = differing_is c.args.sector in grind (arith, append_assoc, is)
