use Rattle.std.proofs.Common.{rules}
use Rattle.ldm_group.specs.Looks.{is_volume_named}
use Rattle.ldm_group.proofs.db.Db.volume_named.Goals as goal

pub returns-in-Some-Volume-clause-is : goal.returns-in-Some-Volume-clause-is
returns-in-Some-Volume-clause-is c =
    let found = c.first_of.ensures.is (is_volume_named c.args.name.now) (c.volumes.ensures c.args.self.now.records c.index.ensures) in
    search (rules, found)

pub returns-in_default-clause-is : goal.returns-in_default-clause-is
returns-in_default-clause-is c =
    let found = c.first_of.ensures.is (is_volume_named c.args.name.now) (c.volumes.ensures c.args.self.now.records c.index.ensures) in
    search (rules, found)
