use Rattle.ldm_edits.proofs.batch.Draft.types_hold.Goals as goal

pub returns-clause-rising : goal.returns-clause-rising
returns-clause-rising c = rw (← c.self.view_is) c.self.invariant.0.rising

pub returns-clause-last : goal.returns-clause-last
returns-clause-last c = rw (← c.self.view_is) c.self.invariant.0.low
