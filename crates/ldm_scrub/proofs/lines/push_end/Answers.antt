use Rattle.ldm_scrub.proofs.lines.push_end.Goals as goal

pub returns-in-Lines-clause-is : goal.returns-in-Lines-clause-is
returns-in-Lines-clause-is c = rw c.in-Lines.is c.push_end_text.ensures.is

pub returns-in-Json-clause-is : goal.returns-in-Json-clause-is
returns-in-Json-clause-is c = rw c.in-Json.is (c.push_end_json.ensures.is c.in-Json.field-0)
