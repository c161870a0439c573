use Rattle.ldm_group_tests.proofs.sectors.is_bad.Goals as goal

-- the volume's sectors lie on the images
pub is_bad_at-requires-clause-lies : goal.is_bad_at-requires-clause-lies
is_bad_at-requires-clause-lies c =
    c.volumes_lie_on_images.ensures.volumes c.args.found.now _ c.in-Some.volume.now c.in-Ok.plan c.requires.sound c.requires.lies (record { there = c.in-Some.ensures.there; layout = c.in-Ok.ensures.is })

-- the columns of the volume lie on the images
pub is_bad_at-requires-clause-rows : goal.is_bad_at-requires-clause-rows
is_bad_at-requires-clause-rows c =
    c.volumes_lie_on_images.ensures.rows c.args.found.now _ c.in-Some.volume.now c.in-Ok.plan c.requires.sound c.requires.lies (record { there = c.in-Some.ensures.there; layout = c.in-Ok.ensures.is })
