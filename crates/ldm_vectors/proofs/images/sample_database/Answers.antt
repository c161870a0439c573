use Rattle.ldm_vectors.proofs.SampleLaws.{sample_from}
use Rattle.ldm_vectors.proofs.images.sample_database.Goals as goal

pub returns : goal.returns
returns c =
    sample_from c.new_database.result c.args.disks c.args.last c.from.result c.guid_with.result c.guid_with-2.result c.guid_with-3.result c.guid_with-4.result c.requires c.from.ensures c.guid_with.ensures
    c.guid_with-2.ensures c.guid_with-3.ensures c.guid_with-4.ensures c.new_database.ensures.made
