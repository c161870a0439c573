use Rattle.ldm_init.proofs.GroupLaws.{made_is, is_new, fits_room}
use Rattle.ldm_init.proofs.database.new_database.Goals as goal

pub returns-in-Ok-clause-made : goal.returns-in-Ok-clause-made
returns-in-Ok-clause-made c =
    made_is c.args.name.now c.args.guid c.args.disks.now c.requires.short c.requires.few c.args.last c.args.seq c.in-Ok.db c.in_ok-header.header c.in_ok-records.records.items
    (c.in_ok-header.ensures {u = tt}) (c.in_ok-records.ensures {u = tt}) c.in-Ok.ensures

pub returns-in-Ok-clause-new : goal.returns-in-Ok-clause-new
returns-in-Ok-clause-new c =
    is_new c.args.name.now c.args.guid c.args.disks.now c.requires.short c.requires.few c.args.last c.args.seq c.in-Ok.db (returns-in-Ok-clause-made c)

pub returns-in-Ok-clause-fits : goal.returns-in-Ok-clause-fits
returns-in-Ok-clause-fits c =
    fits_room c.args.name.now c.args.guid c.args.disks.now c.requires.short c.requires.few c.args.last c.args.seq c.in-Ok.db (returns-in-Ok-clause-made c)
