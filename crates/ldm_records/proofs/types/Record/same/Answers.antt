use Rattle.ldm_records.proofs.SameLaws.{same_record}
use Rattle.ldm_records.proofs.types.Record.same.Goals as goal

pub returns : goal.returns
returns c = same_record _ c.args.self.now c.args.other.now _ _ c.outline_of.ensures c.outline_of-2.ensures c.record_sound.ensures c.record_sound-2.ensures c.is_same_outline.ensures
