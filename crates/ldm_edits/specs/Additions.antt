-- The records that a batch has added to its group, also where it extends or deletes, and what is kept beside them.
use Rattle.std.specs.Prelude.{◌≡◌, ◌+◌, fold, max, ◌-◌, ◌^◌, ◌<◌, ◌++◌, true, List, Result, Ok, Err}
use Rattle.std.specs.Global.{Vec}
use Rattle.ldm_records.specs.declared.types.Record.{Record}
use Rattle.ldm_vmdb.specs.Headers.{grown_to}
use Rattle.ldm_group.specs.Database.{Database, at_seq}
use Rattle.ldm_group.specs.Looks.{max_id, HasSameDisks}
use Rattle.ldm_group.specs.Order.{Rising, id_of, in_order}
use Rattle.ldm_group.specs.Room.{need_of, last_for}
use Rattle.ldm_space.specs.Free.{taken_in}
use Rattle.ldm_made.specs.declared.taken.Taken.{Taken}
use Rattle.ldm_space.specs.declared.placed.FreeMaps.{FreeMaps}
use Rattle.ldm_space.specs.Placed.{AreMapsOf}
use Rattle.ldm_edits.specs.declared.additions.Additions.{Additions}
use Rattle.ldm_edits.specs.declared.error.StepError.{StepError}
use Rattle.ldm_edits.specs.declared.reply.Refusal.{Refusal}
use Rattle.ldm_edits.specs.Answers.{RefusesAs}
use Rattle.ldm_edits.specs.Drafts.{Drafted}

-- the group with the records that are added, and with the last VBLK sequence of both
abbrev pub with_added : Database → Additions → Database
with_added db added = record {
  header = grown_to db.header added.last db.header.seq;
  records = in_order (db.records ++ added.records.items);
}

-- The records that are added to these are volumes, components and partitions that aren't there, and what is kept beside them is of both:
-- the free sectors of some disks, the blocks that all records take, and the greatest id. The last VBLK sequence is a number of the format.
pub record AreAdditions (records : List Record) (a : Additions) : Type 0 where
  pub rising : Rising (in_order (records ++ a.records.items))
  pub disks : HasSameDisks records (in_order (records ++ a.records.items))
  pub maps : AreMapsOf a.maps (taken_in (records ++ a.records.items))
  pub need : a.need ≡ need_of (records ++ a.records.items)
  pub max_id : a.max_id ≡ max_id (records ++ a.records.items)
  pub low : a.last < 2 ^ 32

-- These records of one more volume are added, with the maps beside them.
pub record AddsVolume (old new : Additions) (made : List Record) (maps : FreeMaps) : Type 0 where
  pub records : new.records.items ≡ old.records.items ++ made
  pub maps_are : new.maps ≡ maps
  pub need : new.need ≡ old.need + need_of made
  pub max_id : new.max_id ≡ fold (λ top r. max top (id_of r)) old.max_id made
  pub last : new.last ≡ last_for old.last new.need
  pub low : new.last < 2 ^ 32

-- no record is added; the blocks, the greatest id, the last VBLK sequence, and what the maps are of stay
pub record AddsNone (old new : Additions) : Type 0 where
  pub records : new.records.items ≡ old.records.items
  pub maps : (taken : List Taken) → AreMapsOf old.maps taken → AreMapsOf new.maps taken
  pub need : new.need ≡ old.need
  pub max_id : new.max_id ≡ old.max_id
  pub last : new.last ≡ old.last

-- exactly what the partitions take and the maps with that, or the refusal of the first that finds no place, or want of memory
abbrev pub PlacesBeside : Result (FreeMaps × Vec Taken) StepError → List Taken → Result (List Taken) Refusal → Type 0
PlacesBeside (Ok placed) taken step = (step ≡ Ok placed.1.items) × AreMapsOf placed.0 (placed.1.items ++ taken)
PlacesBeside (Err error) taken step = RefusesAs error step

-- The group becomes exactly the next one but for its sequence, which stays; or there is the reason why there is none, or want of memory,
-- and the group stays.
abbrev pub AddsTo : Database → Database → Result Unit StepError → Result Database Refusal → Type 0
AddsTo before after (Ok done) step = (next : Database) × (step ≡ Ok next) × (at_seq before.header.seq next ≡ after)
AddsTo before after (Err error) step = RefusesAs error step × (after ≡ before)

-- The next group but for its sequence, which is that of the batch, is what it holds then; else exactly the reason why there is none, or
-- want of memory, and it holds what it did.
abbrev pub HoldsAs : Drafted → Drafted × Result Unit StepError → Result Database Refusal → Type 0
HoldsAs old (new, Ok done) step = (next : Database) × (step ≡ Ok next) × (old.db.header.seq < 2 ^ 64 - 1)
    × (new ≡ record { db = at_seq old.db.header.seq next; filled = true })
HoldsAs old (new, Err error) step = RefusesAs error step × (new ≡ old)
