-- Where the partitions of a command lie, or the first reason that they can't.
use Rattle.std.specs.Prelude.{◌≡◌, ℕ, ◌<◌, ◌^◌, All, List, Option, Some, None, Result, Ok, Err}
use Rattle.ldm_label.specs.declared.Label.{Label}
use Rattle.ldm_group.specs.Database.{Database}
use Rattle.ldm_rules.specs.Ends.{data_size}
use Rattle.ldm_made.specs.declared.taken.Taken.{Taken}
use Rattle.ldm_space.specs.declared.placed.Wanted.{Wanted}
use Rattle.ldm_space.specs.Free.{taken_in}
use Rattle.ldm_space.specs.Wanted.{placed}
use Rattle.ldm_edits.specs.declared.reply.Refusal.{Refusal}
use Rattle.ldm_edits.specs.declared.reply.Refusal.TheVariants as refusals
use Rattle.ldm_edits.specs.Asked.{asked_for}

-- ---- steps of which each may be refused

abbrev pub refused_or : {T : Type 0} → Option Refusal → Result T Refusal → Result T Refusal
refused_or (Some refusal) next = Err refusal
refused_or None next = next

abbrev pub and_then : {X Y : Type 0} → Result X Refusal → (X → Result Y Refusal) → Result Y Refusal
and_then (Ok x) next = next x
and_then (Err refusal) next = Err refusal

-- a list, or the refusal of a place
abbrev pub by_place : {T : Type 0} → (ℕ → Refusal) → Result (List T) ℕ → Result (List T) Refusal
by_place refusal (Ok list) = Ok list
by_place refusal (Err place) = Err (refusal place)

-- ---- the stage that create and extend have in common

-- what is asked of the disks that the words name
abbrev pub wanted_by : Database → List Label → List (List ℕ × ℕ) → Result (List Wanted) Refusal
wanted_by db labels words = by_place refusals.NoDisk (asked_for (data_size labels db.records) db.records 0 words)

-- where nothing stands against it
abbrev pub open_wanted : Database → List Label → List (List ℕ × ℕ) → (List Wanted → Option Refusal) → Result (List Wanted) Refusal
open_wanted db labels words against = and_then (wanted_by db labels words) (λ wanted. refused_or (against wanted) (Ok wanted))

-- where it is placed
abbrev pub spots_for : Database → List Wanted → Result (List Taken) Refusal
spots_for db wanted = by_place refusals.NoSpace (placed (taken_in db.records) 0 wanted)

-- partitions of some sectors, on disks whose sizes are numbers of the format
abbrev pub CanBePlaced : List Wanted → Type 0
CanBePlaced wanted = All (λ w. (0 < w.size) × (w.limit < 2 ^ 64)) wanted

-- the disks are there, nothing stands against what is asked of them, and it is placed
pub record ArePlaced (db : Database) (labels : List Label) (words : List (List ℕ × ℕ)) (against : List Wanted → Option Refusal) (wanted : List Wanted) (spots : List Taken) : Type 0 where
  pub asked : asked_for (data_size labels db.records) db.records 0 words ≡ Ok wanted
  pub free : against wanted ≡ None
  pub places : placed (taken_in db.records) 0 wanted ≡ Ok spots
