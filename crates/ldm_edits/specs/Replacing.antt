-- What a command puts in the places of records that leave a group, and the records of one volume alone.
use Rattle.std.specs.Prelude.{◌≡◌, ℕ, ◌+◌, ◌-◌, ◌^◌, ◌<◌, ◌≤◌, ◌==◌, ◌++◌, true, false, not, Bool, nat_le, List, filter, Contains, All, Some, Result, Ok, Err}
use Rattle.std.specs.List.{list_any}
use Rattle.ldm_records.specs.declared.types.Record.{Record}
use Rattle.ldm_records.specs.declared.types.Record.TheVariants as kinds
use Rattle.ldm_records.specs.declared.types.Volume.{Volume}
use Rattle.ldm_label.specs.declared.Label.{Label}
use Rattle.ldm_group.specs.Database.{Database}
use Rattle.ldm_group.specs.Looks.{is_child, max_id, volume_named, HasSameDisks}
use Rattle.ldm_group.specs.Order.{Rising, kind_of, in_order}
use Rattle.ldm_group.specs.Room.{last_for}
use Rattle.ldm_layout.specs.Parts.{plexes_of}
use Rattle.ldm_layout.specs.Volumes.{volume_with}
use Rattle.ldm_rules.specs.Facts.{IsSoundOn}
use Rattle.ldm_space.specs.Free.{taken_in}
use Rattle.ldm_space.specs.Placed.{AreMapsOf}
use Rattle.ldm_space.specs.declared.placed.FreeMaps.{FreeMaps}
use Rattle.ldm_edits.specs.declared.additions.Additions.{Additions}
use Rattle.ldm_edits.specs.declared.leaving.Leaving.{Leaving}
use Rattle.ldm_edits.specs.declared.error.StepError.{StepError}
use Rattle.ldm_edits.specs.declared.replacing.Replacing.{Replacing}
use Rattle.ldm_edits.specs.declared.reply.Refusal.{Refusal}
use Rattle.ldm_edits.specs.declared.subject.Subject.{Subject}
use Rattle.ldm_edits.specs.Additions.{AreAdditions, with_added}
use Rattle.ldm_edits.specs.Answers.{RefusesAs}
use Rattle.ldm_edits.specs.Changes.{change_to}
use Rattle.ldm_edits.specs.Staying.{leaves, staying, change_of}

-- the group's record or that of a disk, which no command changes
abbrev pub is_front : Record → Bool
is_front r = nat_le (kind_of r) 2

-- it is one of these, or where the others are asked for none of them
abbrev pub stands_in : Bool → Record → Bool
stands_in true r = is_front r
stands_in false r = not (is_front r)

-- every record is the group's or a disk's
abbrev pub AreFront : List Record → Type 0
AreFront records = All (λ r. is_front r ≡ true) records

-- Among fewer records the volume is as among all: with the same disks, and the same components with the same partitions.
pub record ShowsAs (own all : List Record) (v : Volume) : Type 0 where
  pub rising : Rising own
  pub members : (r : Record) → Contains own r → Contains all r
  pub disks : HasSameDisks own all
  pub again : volume_with v.head.id own ≡ Some v
  pub components : filter (is_child 3 v.head.id) own ≡ filter (is_child 3 v.head.id) all
  pub partitions : (id : ℕ) → list_any (λ plex. plex.id == id) (plexes_of v.head.id all) ≡ true → filter (is_child 4 id) own ≡ filter (is_child 4 id) all

-- The volume of this name among all records is that among these, and is there as among all.
pub record ShowsNamed (own all : List Record) (name : List ℕ) : Type 0 where
  pub volume : Volume
  pub named : volume_named name all ≡ Some volume
  pub own_named : volume_named name own ≡ Some volume
  pub shows : ShowsAs own all volume

-- its group, with the records that are added
abbrev pub added_group : Additions → Subject → Database
added_group added subject = with_added subject.db.now added

-- The volume is of the group that the added records make, which is sound on disks with these labels, and shows among its own records.
pub record IsVolumeOf (added : Additions) (subject : Subject) : Type 0 where
  pub are : AreAdditions subject.db.now.records added
  pub sound : IsSoundOn (added_group added subject) subject.labels.now
  pub there : Contains (added_group added subject).records (kinds.Volume subject.volume.now)
  pub shows : ShowsAs subject.own.now.records (added_group added subject).records subject.volume.now

-- What is put in the places of what leaves the group: its records and those that stay rise, there are ids for the new ones, and the maps are
-- beside what is taken then. Which records leave is seen among fewer records as among all.
pub record Replaces (own : List Record) (db : Database) (p : Replacing) : Type 0 where
  pub ids : max_id db.records + p.fresh ≤ 2 ^ 64 - 1
  pub rising : Rising (in_order (staying p.leaving db.records ++ p.made.items))
  pub maps : AreMapsOf p.maps (taken_in (staying p.leaving db.records ++ p.made.items))
  pub leaves_are : (r : Record) → leaves p.leaving own r ≡ leaves p.leaving db.records r

-- exactly the step but for the limits, or the reason why there is none, or want of memory
abbrev pub ReplacesAs : Result Replacing StepError → List Record → Database → List Label → Result Database Refusal → Type 0
ReplacesAs (Ok p) own db labels step = (step ≡ change_to db labels p.fresh (change_of p.leaving db.records p.made.items)) × Replaces own db p
ReplacesAs (Err error) own db labels step = RefusesAs error step

-- These records take the places of those that leave, and these are the maps and the blocks that all records take then, by which the last
-- VBLK sequence rises.
pub record TakesPlaces (front own : List Record) (leaving : Leaving) (made : List Record) (need : ℕ) (maps : FreeMaps) (old new : Additions) : Type 0 where
  pub records : new.records.items ≡ filter (λ r. not (leaves leaving own r)) old.records.items ++ made
  pub maps_are : new.maps ≡ maps
  pub need_is : new.need ≡ need
  pub max_id_is : new.max_id ≡ max_id (front ++ new.records.items)
  pub last_is : new.last ≡ last_for old.last need
  pub low : new.last < 2 ^ 32
