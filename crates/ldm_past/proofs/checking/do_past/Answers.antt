use Rattle.ldm_words.specs.Jobs.{texts}
use Rattle.ldm_past.proofs.RunLaws.{some_images}
use Rattle.ldm_past.proofs.checking.do_past.Goals as goal

pub check_past-requires : goal.check_past-requires
check_past-requires g c = some_images (texts c.args.words.now) (g.H.Host.seen c.args.host.now) c.requires.reads c.requires.images
