-- The rules of a sound group, in their order.
use Rattle.std.specs.Prelude.{◌≡◌, ℕ, List, [], ◌∷◌, ◌++◌, Option, Some, None, Result, Ok, Err, count_by}
use Rattle.std.specs.List.{filter_map}
use Rattle.std.specs.Option.{option_map}
use Rattle.ldm_bytes.specs.Tables.{first_of}
use Rattle.ldm_records.specs.declared.types.Record.{Record}
use Rattle.ldm_group.specs.Looks.{is_at, is_disk_with, is_volume_named, children_of}
use Rattle.ldm_label.specs.declared.Label.{Label}
use Rattle.ldm_rules.specs.Rules.{first_broken, group_id, group_fault, has_twin_guid, has_namesake, lacks_volume, lacks_component, lacks_disk, miscounts_components, miscounts_partitions, has_no_sectors, passes_end, meets_another, has_layout_fault, passes_layout}
use Rattle.ldm_rules.specs.Ends.{data_size}
use Rattle.ldm_rules.specs.declared.fault.RuleError.{RuleError}
use Rattle.ldm_rules.specs.declared.fault.RuleError.TheVariants.{Fault, NoMemory}

-- the rule, with the least id at which it is broken
abbrev pub broken_at : ℕ → Option ℕ → Option (ℕ × ℕ)
broken_at rule id = option_map (λ id. (rule, id)) id

-- the rules on the group record, GUIDs and names
unfoldable pub name_rules : List Record → List (Option (ℕ × ℕ))
name_rules records =
    broken_at 1 (group_fault (filter_map group_id records))
    ∷ broken_at 2 (first_broken (has_twin_guid (λ guid. count_by (is_disk_with guid) records)) records)
    ∷ broken_at 3 (first_broken (has_namesake (λ name. count_by (is_volume_named name) records)) records)
    ∷ []

-- the rules on parents and children
unfoldable pub tree_rules : List Record → List (Option (ℕ × ℕ))
tree_rules records =
    broken_at 4 (first_broken (lacks_volume (λ id. count_by (is_at 3 id) records)) records)
    ∷ broken_at 5 (first_broken (lacks_component (λ id. count_by (is_at 4 id) records)) records)
    ∷ broken_at 6 (first_broken (lacks_disk (λ id. count_by (is_at 2 id) records)) records)
    ∷ broken_at 7 (first_broken (miscounts_components (λ id. children_of 3 id records)) records)
    ∷ broken_at 8 (first_broken (miscounts_partitions (λ id. children_of 4 id records)) records)
    ∷ []

-- the rules on sectors
unfoldable pub sector_rules : List Record → List Label → List (Option (ℕ × ℕ))
sector_rules records labels =
    broken_at 9 (first_broken has_no_sectors records)
    ∷ broken_at 10 (first_broken (passes_end (data_size labels records)) records)
    ∷ broken_at 11 (first_broken (meets_another records) records)
    ∷ broken_at 12 (first_broken (has_layout_fault records) records)
    ∷ broken_at 13 (first_broken (passes_layout records) records)
    ∷ []

abbrev pub rule_faults : List Record → List Label → List (Option (ℕ × ℕ))
rule_faults records labels = name_rules records ++ (tree_rules records ++ sector_rules records labels)

-- the first broken rule, and the least id at which it is broken
unfoldable pub first_broken_rule : List Record → List Label → Option (ℕ × ℕ)
first_broken_rule records labels = first_of (rule_faults records labels)

abbrev pub IsSound : List Record → List Label → Type 0
IsSound records labels = first_broken_rule records labels ≡ None

-- exactly the fault, or none where there is none, or want of memory
abbrev pub ChecksAs : Result (Unit {0}) RuleError → Option (ℕ × ℕ) → Type 0
ChecksAs (Ok _) fault = fault ≡ None
ChecksAs (Err (Fault f)) fault = fault ≡ Some (f.rule, f.id)
ChecksAs (Err NoMemory) fault = Unit {0}
