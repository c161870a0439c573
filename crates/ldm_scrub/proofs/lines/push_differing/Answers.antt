use Rattle.ldm_scrub.specs.Lines.{differing_line}
use Rattle.ldm_scrub.proofs.lines.push_differing.Goals as goal

pub returns-in-Lines-clause-is : goal.returns-in-Lines-clause-is
unfolding differing_line
returns-in-Lines-clause-is c = rw c.in-Lines.is c.push_sector.ensures.is

pub returns-in-Json-clause-is : goal.returns-in-Json-clause-is
unfolding differing_line
returns-in-Json-clause-is c = rw c.in-Json.is c.push_sector_json.ensures.is
