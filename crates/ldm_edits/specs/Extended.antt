-- extend: the group with a longer span or mirror, or the first reason that it is refused. The table of a mirror stands here.
use Rattle.std.specs.Prelude.{◌≡◌, ℕ, ◌+◌, ◌^◌, ◌<◌, All, ◌==◌, ◌||◌, ◌&&◌, not, Bool, false, List, [], ◌∷◌, length, is_some, Option, Some, None, Result, Err}
use Rattle.std.specs.List.{list_any}
use Rattle.ldm_bytes.specs.Tables.{first_of}
use Rattle.ldm_records.specs.declared.types.Record.{Record}
use Rattle.ldm_records.specs.declared.types.Record.TheVariants as kinds
use Rattle.ldm_records.specs.declared.types.Volume.{Volume}
use Rattle.ldm_records.specs.declared.types.Component.{Component}
use Rattle.ldm_label.specs.declared.Label.{Label}
use Rattle.ldm_group.specs.Database.{Database}
use Rattle.ldm_places.specs.declared.shape.Shape.{Shape}
use Rattle.ldm_places.specs.declared.shape.Shape.TheVariants.{Span, Stripe, Mirror, Raid5}
use Rattle.ldm_layout.specs.Parts.{plexes_of}
use Rattle.ldm_layout.specs.Volumes.{layout_of, shape_of}
use Rattle.ldm_space.specs.declared.placed.Wanted.{Wanted}
use Rattle.ldm_words.specs.declared.command.Piece.{Piece}
use Rattle.ldm_edits.specs.declared.reply.Refusal.{Refusal}
use Rattle.ldm_edits.specs.declared.reply.Refusal.TheVariants as refusals
use Rattle.ldm_edits.specs.Asked.{words_by, has_twins, is_much}
use Rattle.ldm_edits.specs.Changes.{when, change_to}
use Rattle.ldm_edits.specs.Spots.{refused_or, and_then, open_wanted, spots_for}
use Rattle.ldm_edits.specs.Extending.{held, extended_span}
use Rattle.ldm_edits.specs.Mirroring.{components_of, component_holds, grown}

-- a partition of this component on this disk
abbrev pub is_part_on : ℕ → ℕ → Record → Bool
is_part_on component disk (kinds.Partition p) = (p.parent == component) && (p.disk == disk)
is_part_on component disk _ = false

-- another component has a partition on this disk
abbrev pub on_another : List Record → List Component → ℕ → ℕ → Bool
on_another records cs own disk = list_any (λ c. not (c.head.id == own) && list_any (is_part_on c.head.id disk) records) cs

-- a piece is on a disk of another component than its own. The first piece is the first component's, and so on
abbrev pub on_others : List Record → List Component → List Component → List Wanted → Bool
on_others records all [] wanted = false
on_others records all (c ∷ cs) [] = false
on_others records all (c ∷ cs) (w ∷ ws) = on_another records all c.head.id w.disk || on_others records all cs ws

-- the length of the first piece
abbrev pub len_of : List Wanted → ℕ
len_of [] = 0
len_of (w ∷ ws) = w.size

-- a length of 0, or another than the first
abbrev pub is_uneven : ℕ → List Wanted → Bool
is_uneven len wanted = list_any (λ w. (w.size == 0) || not (w.size == len)) wanted

-- two lengths, too large a volume, or an offset that is no number of the format
abbrev pub is_bad_growth : List Record → ℕ → List Component → List Wanted → Bool
is_bad_growth records capacity cs wanted =
    is_uneven (len_of wanted) wanted || (is_much (capacity + len_of wanted) || list_any (λ c. is_much (component_holds records c)) cs)

-- what good lengths are
pub record IsEven (records : List Record) (capacity : ℕ) (cs : List Component) (wanted : List Wanted) : Type 0 where
  pub room : capacity + len_of wanted < 2 ^ 64
  pub low : All (λ c. component_holds records c < 2 ^ 64) cs
  pub some : All (λ w. 0 < w.size) wanted
  pub same : All (λ w. w.size ≡ len_of wanted) wanted
  pub len : 0 < length wanted → (len_of wanted == 0) ≡ false

-- what stands against it, where all disks are there
abbrev pub against_growth : List Record → Volume → List Wanted → Option Refusal
against_growth records v wanted = first_of (
    when (has_twins wanted || on_others records (components_of v records) (components_of v records) wanted) refusals.SameDisk
    ∷ (when (is_bad_growth records (held (layout_of records v)) (components_of v records) wanted) refusals.BadSize ∷ []))

-- the group whose mirror is longer, where the pieces are as many as its components
abbrev pub longer_mirror : Database → List Label → List Piece → Volume → Result Database Refusal
longer_mirror db labels pieces v =
    and_then (open_wanted db labels (words_by pieces) (against_growth db.records v)) (λ wanted.
    and_then (spots_for db wanted) (λ spots. change_to db labels (length wanted) (grown db.records v (held (layout_of db.records v) + len_of wanted) spots)))

-- one piece for each component
abbrev pub extended_mirror : Database → List Label → List Piece → Volume → Result Database Refusal
extended_mirror db labels pieces v =
    refused_or (first_of (
    when (is_some v.size2) refusals.ExtraSize
    ∷ (when (not (length pieces == length (components_of v db.records))) (refusals.PieceCount (length (components_of v db.records))) ∷ [])))
    (longer_mirror db labels pieces v)

-- by the shape of the volume
abbrev pub extended_as : Option Shape → Database → List Label → List Piece → Volume → Result Database Refusal
extended_as (Some Mirror) db labels pieces v = extended_mirror db labels pieces v
extended_as (Some Span) db labels pieces v = extended_span db labels pieces (Some v)
extended_as (Some Stripe) db labels pieces v = extended_span db labels pieces (Some v)
extended_as (Some Raid5) db labels pieces v = extended_span db labels pieces (Some v)
extended_as None db labels pieces v = extended_span db labels pieces (Some v)

-- the group with a longer span or mirror
abbrev pub extended : Database → List Label → List Piece → Option Volume → Result Database Refusal
extended db labels pieces None = Err refusals.NoVolume
extended db labels pieces (Some v) = extended_as (shape_of (plexes_of v.head.id db.records)) db labels pieces v
