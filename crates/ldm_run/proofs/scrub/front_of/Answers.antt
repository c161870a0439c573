use Rattle.ldm_scrub.specs.Lines.{end_front}
use Rattle.ldm_run.proofs.scrub.front_of.Goals as goal

pub returns-in-Lines : goal.returns-in-Lines
unfolding end_front
returns-in-Lines c = rw c.in-Lines.is c.words_front.ensures

pub returns-in-Json : goal.returns-in-Json
unfolding end_front
returns-in-Json c = rw c.in-Json.is c.json_front.ensures
