use Rattle.ldm_group_tests.proofs.sectors.sector_of.Goals as goal

-- the volume's sectors lie on the images
pub bytes_at-requires-clause-lies : goal.bytes_at-requires-clause-lies
bytes_at-requires-clause-lies c =
    c.volumes_lie_on_images.ensures.volumes c.args.found.now _ c.in-Some.volume.now c.in-Ok.plan c.requires.sound c.requires.lies (record { there = c.in-Some.ensures.there; layout = c.in-Ok.ensures.is })
