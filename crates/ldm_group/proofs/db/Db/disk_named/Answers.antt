use Rattle.std.proofs.Common.{rules}
use Rattle.ldm_group.specs.Looks.{is_disk_named}
use Rattle.ldm_group.proofs.db.Db.disk_named.Goals as goal

pub returns-in-Some-Disk-clause-is : goal.returns-in-Some-Disk-clause-is
returns-in-Some-Disk-clause-is c =
    let found = c.first_of.ensures.is (is_disk_named c.args.name.now) (c.disks.ensures c.args.self.now.records c.index.ensures) in
    search (rules, found)

pub returns-in_default-clause-is : goal.returns-in_default-clause-is
returns-in_default-clause-is c =
    let found = c.first_of.ensures.is (is_disk_named c.args.name.now) (c.disks.ensures c.args.self.now.records c.index.ensures) in
    search (rules, found)
