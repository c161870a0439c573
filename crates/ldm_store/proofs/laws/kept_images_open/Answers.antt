use Rattle.ldm_store.proofs.OpensLaws.{editable_opens}
use Rattle.ldm_store.proofs.laws.kept_images_open.Goals as goal

pub returns : goal.returns
returns c labels older newer old images are may_older may_newer next one_each outside kept = editable_opens labels older newer old images are may_older may_newer next one_each outside kept
