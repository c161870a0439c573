use Rattle.ldm_group.specs.Looks.{is_at}
use Rattle.ldm_group.proofs.LookLaws.{found_at}
use Rattle.ldm_group.proofs.db.Db.by_id.Goals as goal

pub returns-clause-is : goal.returns-clause-is
returns-clause-is c = c.first_of.ensures.is (is_at c.args.kind c.args.id) (c.at.ensures c.args.self.now.records c.index.ensures)

pub returns-clause-at : goal.returns-clause-at
returns-clause-at c = found_at c.args.kind c.args.id c.args.self.now.records c.first_of.result (returns-clause-is c)
