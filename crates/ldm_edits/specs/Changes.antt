-- What a command does to the records of a group, what the group is then, and why it can't be done.
use Rattle.std.specs.Prelude.{ℕ, ◌+◌, ◌-◌, ◌*◌, ◌^◌, ◌≤◌, ◌==◌, Bool, All, List, [], ◌∷◌, ◌++◌, map, filter, Option, Some, None, Result, nat_lt, if◌then◌else◌}
use Rattle.std.specs.Option.{option_map}
use Rattle.ldm_bytes.specs.Tables.{first_of, unless}
use Rattle.ldm_records.specs.declared.types.Record.{Record}
use Rattle.ldm_vmdb.specs.Headers.{grown_to}
use Rattle.ldm_label.specs.declared.Label.{Label}
use Rattle.ldm_group.specs.Order.{id_of, in_order}
use Rattle.ldm_group.specs.Database.{Database}
use Rattle.ldm_group.specs.Looks.{max_id}
use Rattle.ldm_group.specs.Room.{own_len, need_of, last_for}
use Rattle.ldm_places.specs.Extents.{least}
use Rattle.ldm_edits.specs.declared.reply.Refusal.{Refusal}
use Rattle.ldm_edits.specs.declared.reply.Refusal.TheVariants as refusals

-- the records that stay as they are, and those that are new or changed
pub record Change : Type 0 where
  pub stay : List Record
  pub made : List Record

-- the blocks that its records take
abbrev pub need_in : Change → ℕ
need_in change = need_of (change.stay ++ change.made)

-- the group with this change: its sequence is one more, its records are those that stay and those that are made, and its last VBLK
-- sequence is greater where they need more blocks than it leaves
abbrev pub changed : Database → Change → Database
changed db change = record {
  header = grown_to db.header (last_for db.header.last (need_in change)) (db.header.seq + 1);
  records = in_order (change.stay ++ change.made);
}

-- the least config area of the images, in sectors
abbrev pub least_area : List Label → ℕ
least_area labels = least (map (λ l. l.area_sectors) labels)

-- the most blocks that each of them holds
abbrev pub most_blocks : List Label → ℕ
most_blocks labels = 4 * least_area labels - 4

-- no config area has more sectors than the 2048 that an image keeps for the LDM database
abbrev pub AreasFit : List Label → Type 0
AreasFit labels = All (λ l. l.area_sectors ≤ 2048) labels

-- the refusal, where it holds
abbrev pub when : Bool → Refusal → Option Refusal
when holds refusal = if holds then Some refusal else None

abbrev pub least_in : List ℕ → Option ℕ
least_in [] = None
least_in (n ∷ ns) = Some (least (n ∷ ns))

-- the own spelling has more bytes than four blocks hold
abbrev pub is_long : Record → Bool
is_long r = nat_lt 448 (own_len r)

-- the least id of the records that are too long
abbrev pub long_id : List Record → Option ℕ
long_id records = least_in (map id_of (filter is_long records))

-- the refusals that all commands have in common, but for IdsSpent, in their order
abbrev pub later_limits : Database → List Label → Change → List (Option Refusal)
later_limits db labels change =
    option_map refusals.TooLong (long_id change.made)
    ∷ (when (nat_lt (most_blocks labels) (need_in change)) (refusals.NoRoom (need_in change) (most_blocks labels))
    ∷ (when (db.header.seq == 2 ^ 64 - 1) refusals.SequenceSpent
    ∷ []))

-- The refusals that all commands have in common, in their order. So many records are new.
unfoldable pub limits : Database → List Label → ℕ → Change → List (Option Refusal)
limits db labels fresh change = when (nat_lt (2 ^ 64 - 1) (max_id db.records + fresh)) refusals.IdsSpent ∷ later_limits db labels change

-- the group with the change, where no limit is passed
abbrev pub change_to : Database → List Label → ℕ → Change → Result Database Refusal
change_to db labels fresh change = unless (first_of (limits db labels fresh change)) (changed db change)
