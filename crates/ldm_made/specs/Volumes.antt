-- The records that a command makes. Ids follow one another from a first id on, in the order in which the records stand here.
use Rattle.std.specs.Prelude.{ℕ, ◌+◌, ◌-◌, ◌*◌, true, false, List, [], ◌∷◌, length, sum_by, Option, Some, None}
use Rattle.std.specs.List.{filter_map}
use Rattle.ldm_records.specs.declared.types.Record.{Record}
use Rattle.ldm_made.specs.Made.{new_volume, new_component, new_partition}
use Rattle.ldm_made.specs.declared.taken.Taken.{Taken}

-- the partitions of a span's component, from an offset on: their offsets follow one another
abbrev pub span_parts : ℕ → ℕ → ℕ → List Taken → List (Option Record)
span_parts id component at [] = []
span_parts id component at (t ∷ more) = new_partition id t.start at t.size component t.disk None ∷ span_parts (id + 1) component (at + t.size) more

-- the columns of a stripe or RAID-5, from an index on: their indexes follow one another
abbrev pub column_parts : ℕ → ℕ → ℕ → List Taken → List (Option Record)
column_parts id component index [] = []
column_parts id component index (t ∷ more) = new_partition id t.start 0 t.size component t.disk (Some index) ∷ column_parts (id + 1) component (index + 1) more

-- the components of a mirror, each followed by its partition
abbrev pub mirror_parts : ℕ → ℕ → List Taken → List (Option Record)
mirror_parts id volume [] = []
mirror_parts id volume (t ∷ more) = new_component id volume 2 1 None ∷ new_partition (id + 1) t.start 0 t.size id t.disk None ∷ mirror_parts (id + 2) volume more

-- those that are there
abbrev pub there : List (Option Record) → List Record
there records = filter_map (λ r. r) records

-- all records of a new volume, where its partitions take these sectors: the volume, its components, each followed by its partitions
abbrev pub span_made : ℕ → List ℕ → ℕ → List Taken → List Record
span_made id name guid taken =
    there (new_volume id name guid false 1 (sum_by (λ t. t.size) taken) ∷ new_component (id + 1) id 2 (length taken) None ∷ span_parts (id + 2) (id + 1) 0 taken)

abbrev pub stripe_made : ℕ → List ℕ → ℕ → ℕ → ℕ → List Taken → List Record
stripe_made id name guid chunk len taken =
    there (new_volume id name guid false 1 (length taken * len) ∷ new_component (id + 1) id 1 (length taken) (Some (record { chunk = chunk; columns = length taken }))
    ∷ column_parts (id + 2) (id + 1) 0 taken)

abbrev pub raid5_made : ℕ → List ℕ → ℕ → ℕ → ℕ → List Taken → List Record
raid5_made id name guid chunk len taken =
    there (new_volume id name guid true 1 ((length taken - 1) * len) ∷ new_component (id + 1) id 3 (length taken) (Some (record { chunk = chunk; columns = length taken }))
    ∷ column_parts (id + 2) (id + 1) 0 taken)

abbrev pub mirror_made : ℕ → List ℕ → ℕ → ℕ → List Taken → List Record
mirror_made id name guid len taken = there (new_volume id name guid false (length taken) len ∷ mirror_parts (id + 1) id taken)
