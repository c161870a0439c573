use Rattle.ldm_run.proofs.tabling.tabled.Goals as goal

-- the volume's sectors, and its columns, lie on the images
pub table_of-requires-clause-lies : goal.table_of-requires-clause-lies
table_of-requires-clause-lies g c =
    c.volumes_lie_on_images.ensures.volumes c.args.found.now _ c.in-Some.volume.now c.in_ok-plan.plan c.requires.sound c.requires.lies (record { there = c.in-Some.ensures.there; layout = c.in_ok-plan.ensures.is })

pub table_of-requires-clause-rows : goal.table_of-requires-clause-rows
table_of-requires-clause-rows g c =
    c.volumes_lie_on_images.ensures.rows c.args.found.now _ c.in-Some.volume.now c.in_ok-plan.plan c.requires.sound c.requires.lies (record { there = c.in-Some.ensures.there; layout = c.in_ok-plan.ensures.is })
