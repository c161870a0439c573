-- create: the group with a new volume, or the first reason that it is refused.
use Rattle.std.specs.Prelude.{ℕ, ◌+◌, ◌-◌, ◌*◌, ◌%◌, ◌==◌, ◌||◌, not, Bool, false, List, [], ◌∷◌, length, map, sum_by, Option, Result, Err, is_some, if◌then◌else◌}
use Rattle.std.specs.List.{list_any}
use Rattle.ldm_bytes.specs.Tables.{first_of}
use Rattle.ldm_records.specs.declared.types.Record.{Record}
use Rattle.ldm_label.specs.declared.Label.{Label}
use Rattle.ldm_group.specs.Database.{Database}
use Rattle.ldm_group.specs.Looks.{volume_named, max_id}
use Rattle.ldm_made.specs.declared.taken.Taken.{Taken}
use Rattle.ldm_space.specs.declared.placed.Wanted.{Wanted}
use Rattle.ldm_words.specs.declared.command.NewLayout.{NewLayout}
use Rattle.ldm_words.specs.declared.command.NewLayout.TheVariants as layouts
use Rattle.ldm_edits.specs.declared.reply.Refusal.{Refusal}
use Rattle.ldm_edits.specs.declared.reply.Refusal.TheVariants as refusals
use Rattle.ldm_edits.specs.Asked.{words_by, has_twins, is_much}
use Rattle.ldm_edits.specs.Changes.{Change, when, change_to}
use Rattle.ldm_edits.specs.Spots.{and_then, open_wanted, spots_for}
use Rattle.ldm_made.specs.Volumes.{span_made, stripe_made, raid5_made, mirror_made}

-- the disk words in their order, each with the sectors that it is asked for
abbrev pub words_of : NewLayout → List (List ℕ × ℕ)
words_of (layouts.Span pieces) = words_by pieces
words_of (layouts.Stripe chunk len disks) = map (λ name. (name, len)) disks
words_of (layouts.Mirror len disks) = map (λ name. (name, len)) disks
words_of (layouts.Raid5 chunk len disks) = map (λ name. (name, len)) disks

-- a span may have several pieces on one disk
abbrev pub is_same_disk : NewLayout → List Wanted → Bool
is_same_disk (layouts.Span pieces) wanted = false
is_same_disk _ wanted = has_twins wanted

-- a length or chunk of 0, columns that chunks don't fill, or too much in so many of them
abbrev pub is_bad_column : ℕ → ℕ → ℕ → Bool
is_bad_column chunk len columns = (len == 0) || ((chunk == 0) || (not (len % chunk == 0) || is_much (columns * len)))

-- too large a volume, or one of a bad length or chunk
abbrev pub is_bad_size : NewLayout → Bool
is_bad_size (layouts.Span pieces) = list_any (λ p. p.len == 0) pieces || is_much (sum_by (λ p. p.len) pieces)
is_bad_size (layouts.Stripe chunk len disks) = is_bad_column chunk len (length disks)
is_bad_size (layouts.Mirror len disks) = len == 0
is_bad_size (layouts.Raid5 chunk len disks) = is_bad_column chunk len (length disks - 1)

-- the new records, from an id on, where the partitions take these sectors
abbrev pub made_for : NewLayout → ℕ → List ℕ → ℕ → List Taken → List Record
made_for (layouts.Span pieces) id name guid taken = span_made id name guid taken
made_for (layouts.Stripe chunk len disks) id name guid taken = stripe_made id name guid chunk len taken
made_for (layouts.Mirror len disks) id name guid taken = mirror_made id name guid len taken
made_for (layouts.Raid5 chunk len disks) id name guid taken = raid5_made id name guid chunk len taken

-- how many records a new volume of this layout has
abbrev pub fresh_for : NewLayout → ℕ
fresh_for (layouts.Span pieces) = 2 + length pieces
fresh_for (layouts.Stripe chunk len disks) = 2 + length disks
fresh_for (layouts.Mirror len disks) = 1 + 2 * length disks
fresh_for (layouts.Raid5 chunk len disks) = 2 + length disks

abbrev pub change_for : Database → List ℕ → ℕ → NewLayout → List Taken → Change
change_for db name guid layout spots = record { stay = db.records; made = made_for layout (max_id db.records + 1) name guid spots }

-- what stands against it, where all disks are there
abbrev pub against_layout : NewLayout → List Wanted → Option Refusal
against_layout layout wanted = first_of (when (is_same_disk layout wanted) refusals.SameDisk ∷ (when (is_bad_size layout) refusals.BadSize ∷ []))

-- the group with a new volume whose name no other has
abbrev pub created_new : Database → List Label → List ℕ → ℕ → NewLayout → Result Database Refusal
created_new db labels name guid layout =
    and_then (open_wanted db labels (words_of layout) (against_layout layout)) (λ wanted.
    and_then (spots_for db wanted) (λ spots. change_to db labels (fresh_for layout) (change_for db name guid layout spots)))

unfoldable pub created : Database → List Label → List ℕ → ℕ → NewLayout → Result Database Refusal
created db labels name guid layout =
    if is_some (volume_named name db.records) then Err refusals.NameTaken else created_new db labels name guid layout
