-- delete: the group without a volume, its components and their partitions, or the first reason that it is refused.
use Rattle.std.specs.Prelude.{List, [], Option, Some, None, Result, Err}
use Rattle.ldm_records.specs.declared.types.Record.{Record}
use Rattle.ldm_records.specs.declared.types.Volume.{Volume}
use Rattle.ldm_label.specs.declared.Label.{Label}
use Rattle.ldm_group.specs.Database.{Database}
use Rattle.ldm_edits.specs.declared.leaving.Leaving.TheVariants as leavings
use Rattle.ldm_edits.specs.declared.reply.Refusal.{Refusal}
use Rattle.ldm_edits.specs.declared.reply.Refusal.TheVariants as refusals
use Rattle.ldm_edits.specs.Changes.{Change, change_to}
use Rattle.ldm_edits.specs.Staying.{change_of}

abbrev pub without : Volume → List Record → Change
without v records = change_of (leavings.Deleted v.head.id) records []

abbrev pub deleted : Database → List Label → Option Volume → Result Database Refusal
deleted db labels None = Err refusals.NoVolume
deleted db labels (Some v) = change_to db labels 0 (without v db.records)
