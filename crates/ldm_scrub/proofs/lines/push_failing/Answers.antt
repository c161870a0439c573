use Rattle.ldm_scrub.specs.Lines.{failing_line}
use Rattle.ldm_scrub.proofs.lines.push_failing.Goals as goal

pub returns-in-Lines-clause-is : goal.returns-in-Lines-clause-is
unfolding failing_line
returns-in-Lines-clause-is c = rw c.in-Lines.is c.push_row.ensures.is

pub returns-in-Json-clause-is : goal.returns-in-Json-clause-is
unfolding failing_line
returns-in-Json-clause-is c = rw c.in-Json.is c.push_row_json.ensures.is
