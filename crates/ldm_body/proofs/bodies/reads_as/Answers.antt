use Rattle.ldm_body.proofs.bodies.reads_as.Goals as goal

pub returns-in-Ok-clause-yes : goal.returns-in-Ok-clause-yes
returns-in-Ok-clause-yes c t = (c.in-Ok.h, c.in-Ok.ensures.0, c.in-Ok.ensures.1, c.is_same_header.ensures.0 t)
