-- The JSON that says where the sectors of a volume lie: an object for each line of the text.
use Rattle.std.specs.Prelude.{ℕ, List, [], ◌∷◌, ◌++◌, flat_map, codes, is_none, Option, Some, None}
use Rattle.std.specs.List.{range_with_len}
use Rattle.json.specs.Json.{Json, boolean}
use Rattle.ldm_json.specs.Values.{number_json, maybe_json, maybe_text_json, name_json, json_object, json_array}
use Rattle.ldm_places.specs.Layouts.{Layout, copies_of, place_in, parity_in}
use Rattle.ldm_places.specs.declared.shape.Place.{Place}
use Rattle.ldm_copy.specs.declared.found.Found.{Found}
use Rattle.ldm_look.specs.declared.mapped.MappedDisk.{MappedDisk}
use Rattle.ldm_look.specs.Map.{mapped_at}
use Rattle.ldm_look.specs.Paths.{path_of}
use Rattle.ldm_look.specs.ShowJson.{image_sector}

-- Sector x of the volume: the copy of this number, or the parity where there is no number. It lies at sector y of the
-- disk's data.
unfoldable pub place_json : List (List ℕ) → ℕ → Option ℕ → MappedDisk → ℕ → Json
place_json paths x copy d y =
    json_object (
    (codes "sector", number_json x)
    ∷ (codes "copy", maybe_json copy)
    ∷ (codes "parity", boolean (is_none copy))
    ∷ (codes "disk", name_json d.name)
    ∷ (codes "image", maybe_json d.image)
    ∷ (codes "path", maybe_text_json (path_of paths d.image))
    ∷ (codes "start", number_json y)
    ∷ (codes "image_start", maybe_json (image_sector (Some d) y))
    ∷ [])

abbrev pub place_jsons_on : List (List ℕ) → ℕ → Option ℕ → Option MappedDisk → ℕ → List Json
place_jsons_on paths x copy None y = []
place_jsons_on paths x copy (Some d) y = place_json paths x copy d y ∷ []

-- The object of a place, where `disks` tells the disk of each id. Nothing where there is no place, or no such disk, as in
-- the text.
abbrev pub place_jsons : (ℕ → Option MappedDisk) → List (List ℕ) → ℕ → Option ℕ → Option Place → List Json
place_jsons disks paths x copy None = []
place_jsons disks paths x copy (Some place) = place_jsons_on paths x copy (disks place.disk) place.sector

abbrev pub copy_number_jsons : (ℕ → Option MappedDisk) → List (List ℕ) → Layout → ℕ → ℕ → List Json
copy_number_jsons disks paths l x copy = place_jsons disks paths x (Some copy) (place_in l x copy)

-- an object for each copy in rising number, and one for the parity
unfoldable pub sector_jsons : (ℕ → Option MappedDisk) → List (List ℕ) → Layout → ℕ → List Json
sector_jsons disks paths l x =
    flat_map (copy_number_jsons disks paths l x) (range_with_len 0 (copies_of l)) ++ place_jsons disks paths x None (parity_in l x)

-- the objects of so many sectors, from the first on
abbrev pub sectors_jsons : (ℕ → Option MappedDisk) → List (List ℕ) → Layout → ℕ → ℕ → List Json
sectors_jsons disks paths l first count = flat_map (sector_jsons disks paths l) (range_with_len first count)

-- the map of some sectors of a volume of the group, which has this layout; its images have these words
abbrev pub map_json : List (List ℕ) → Found → Layout → ℕ → ℕ → Json
map_json paths found l first count = json_array (sectors_jsons (mapped_at found.labels found.db.records) paths l first count)
