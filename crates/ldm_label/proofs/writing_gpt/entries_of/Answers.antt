use Rattle.ldm_label.proofs.EntriesLaws.{entries_are}
use Rattle.ldm_label.proofs.writing_gpt.entries_of.Goals as goal

pub returns : goal.returns
returns c =
    entries_are c.args.label.now _ _ _ _ _ _ c.drawn_guid.ensures c.drawn_guid-2.ensures c.drawn_guid-3.ensures c.put_entry.ensures c.put_entry-2.ensures c.put_entry-3.ensures
