use Rattle.std.proofs.Common.{refl}
use Rattle.ldm_written.proofs.WriteLaws.{part_filled}
use Rattle.ldm_written.proofs.writing.part_of.Goals as goal

pub returns-clause-bytes : goal.returns-clause-bytes
returns-clause-bytes c = part_filled c.args.payload.now c.args.part c.min.result _ c.requires c.min.ensures refl
