-- The JSON of a scrub: a value for each bad place, and a last one.
use Rattle.std.specs.Prelude.{ℕ, List, [], ◌∷◌, codes, Option, Some, None}
use Rattle.json.specs.Json.{Json, string}
use Rattle.ldm_json.specs.Values.{number_json, maybe_json, name_json, json_object}

-- a sector, or a row and an offset in its chunks, and what is wrong there
abbrev pub bad_place_json : Option ℕ → Option ℕ → Option ℕ → List ℕ → Json
bad_place_json sector row offset fault =
    json_object (
    (codes "sector", maybe_json sector)
    ∷ (codes "row", maybe_json row)
    ∷ (codes "offset", maybe_json offset)
    ∷ (codes "fault", string fault)
    ∷ [])

-- a sector whose copies differ
abbrev pub differing_json : ℕ → Json
differing_json x = bad_place_json (Some x) None None (codes "differs")

-- a row whose parity fails at an offset
abbrev pub failing_json : ℕ → ℕ → Json
failing_json row offset = bad_place_json None (Some row) (Some offset) (codes "parity fails")

-- how many places of the volume were compared, and how many are bad
abbrev pub scrubbed_json : List ℕ → ℕ → ℕ → Json
scrubbed_json name checked bad = json_object ((codes "volume", name_json name) ∷ (codes "checked", number_json checked) ∷ (codes "bad", number_json bad) ∷ [])
