-- Whether a group that was found may be edited.
use Rattle.std.specs.Prelude.{ℕ, ◌+◌, ◌*◌, ◌≤◌, ◌||◌, max, min, nat_lt, Bool, List, [], ◌∷◌, All, length, Option, Some, None, find, position, if◌then◌else◌}
use Rattle.std.specs.Option.{option_map}
use Rattle.ldm_bytes.specs.Tables.{first_of}
use Rattle.ldm_group.specs.Order.{id_of}
use Rattle.ldm_group.specs.Database.{Database}
use Rattle.ldm_label.specs.declared.Label.{Label}
use Rattle.ldm_rules.specs.Present.{is_absent}
use Rattle.ldm_copy.specs.declared.fault.OpenFault.{OpenFault}
use Rattle.ldm_copy.specs.declared.fault.OpenFault.TheVariants as faults

-- the area is too small for a database whose last VBLK sequence is this
abbrev pub is_small : ℕ → Label → Bool
is_small last label = nat_lt (4 * label.area_sectors) last

-- no area is
abbrev pub AreLarge : ℕ → List Label → Type 0
AreLarge last labels = All (λ label. last ≤ 4 * label.area_sectors) labels

-- The config area begins in front of sector 3 of the database, so it may have a table of contents in it; or it ends behind
-- sector 1856, where copy 2 of the private header is; or a sector is in the log area too.
abbrev pub clashes : Label → Bool
clashes label =
    nat_lt label.area_start 3
    || nat_lt 1856 (label.area_start + label.area_sectors)
    || nat_lt (max label.area_start label.log_start) (min (label.area_start + label.area_sectors) (label.log_start + label.log_sectors))

-- why a group may not be edited: each reason, in their order
unfoldable pub reasons : Database → List Label → List (Option OpenFault)
reasons db labels =
    option_map (λ r. faults.Absent (id_of r)) (find (is_absent labels) db.records)
    ∷ (if nat_lt (length labels) 2 then Some faults.FewDisks else None)
    ∷ option_map faults.AreaSmall (position (is_small db.header.last) labels)
    ∷ option_map faults.AreaClash (position clashes labels)
    ∷ []

-- the first reason, or nothing where the group may be edited
abbrev pub blocked_in : Database → List Label → Option OpenFault
blocked_in db labels = first_of (reasons db labels)
