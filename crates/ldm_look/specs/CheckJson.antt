-- The JSON of `check`: whether the group may be edited, or why not, and what each image holds.
use Rattle.std.specs.Prelude.{◌≡◌, ℕ, List, [], ◌∷◌, ◌++◌, map, codes, is_none, slice_get, Option, Some, None, if◌then◌else◌, flat_map}
use Rattle.std.specs.List.{enumerate_from}
use Rattle.json.specs.Token.{Token}
use Rattle.json.specs.Json.{Json, null, boolean, string}
use Rattle.json.specs.Tree.{json_tokens}
use Rattle.ldm_records.specs.declared.types.Record.{Record}
use Rattle.ldm_records.specs.declared.types.Record.TheVariants as kinds
use Rattle.ldm_records.specs.declared.types.Disk.{Disk}
use Rattle.ldm_label.specs.declared.Label.{Label}
use Rattle.std.specs.Option.{option_map}
use Rattle.ldm_host.specs.Seen.{image}
use Rattle.ldm_label.specs.declared.counting.GoodCopies.{GoodCopies}
use Rattle.ldm_label.specs.GoodCopies.{good_copies}
use Rattle.ldm_label.specs.Present.{image_with}
use Rattle.ldm_json.specs.Values.{Member, number_json, name_json, guid_json, maybe_json, maybe_text_json, said_json, json_object, json_array, then_array, closing}
use Rattle.ldm_copy.specs.declared.fault.OpenFault.{OpenFault}
use Rattle.ldm_copy.specs.declared.notes.Note.{Note}
use Rattle.ldm_copy.specs.declared.notes.Note.TheVariants.{Closed, Sequence}
use Rattle.ldm_copy.specs.declared.found.Found.{Found}
use Rattle.ldm_look.specs.Opening.{text_of_open_fault}
use Rattle.ldm_look.specs.FaultJson.{kind_of_fault}

-- the sequence of an open copy
abbrev pub note_sequence : Note → Option ℕ
note_sequence Closed = None
note_sequence (Sequence seq) = Some seq

-- Image I, the sequence of its copy, or null where it is closed, and how many of its private headers and of its tables of
-- contents are good.
abbrev pub note_json : List (List ℕ) → List GoodCopies → ℕ × Note → Json
note_json paths goods (image, note) =
    json_object (
    (codes "image", number_json image)
    ∷ (codes "path", maybe_text_json (slice_get paths image))
    ∷ (codes "sequence", maybe_json (note_sequence note))
    ∷ (codes "headers", maybe_json (option_map (λ good. good.headers) (slice_get goods image)))
    ∷ (codes "tables", maybe_json (option_map (λ good. good.tables) (slice_get goods image)))
    ∷ [])

abbrev pub note_jsons : List (List ℕ) → List GoodCopies → List Note → List Json
note_jsons paths goods notes = map (note_json paths goods) (enumerate_from 0 notes)

-- the good copies of each image with a label, in their order
abbrev pub goods_of : List (List ℕ) → List Label → List GoodCopies
goods_of images labels = map (λ at. good_copies (image images at.0) at.1) (enumerate_from 0 labels)

abbrev pub kind_json : Option OpenFault → Json
kind_json None = null
kind_json (Some fault) = string (kind_of_fault fault)

abbrev pub reason_json : Option OpenFault → Json
reason_json None = null
reason_json (Some fault) = said_json (text_of_open_fault fault)

-- a disk that has no image
abbrev pub absent_json : Disk → Json
absent_json d =
    json_object (
    (codes "id", number_json d.head.id)
    ∷ (codes "name", name_json d.head.name)
    ∷ (codes "guid", guid_json d.guid)
    ∷ [])

abbrev pub absent_jsons_at : List Label → Record → List Json
absent_jsons_at labels (kinds.Disk d) = if is_none (image_with d.guid labels) then absent_json d ∷ [] else []
absent_jsons_at labels _ = []

-- each disk of the group that has no image, in rising id
abbrev pub absent_jsons : List Label → List Record → List Json
absent_jsons labels records = flat_map (absent_jsons_at labels) records

-- what `check` says: the members of an object, of which the last is an array
abbrev pub check_members : List (List ℕ) → List GoodCopies → Found → List Member
check_members paths goods found =
    (codes "editable", boolean (is_none found.blocked))
    ∷ (codes "kind", kind_json found.blocked)
    ∷ (codes "reason", reason_json found.blocked)
    ∷ (codes "images", json_array (note_jsons paths goods found.notes))
    ∷ (codes "absent", json_array (absent_jsons found.labels found.db.records))
    ∷ []

abbrev pub check_json : List (List ℕ) → List GoodCopies → Found → Json
check_json paths goods found = json_object (check_members paths goods found)

-- These tokens begin what `check` says: it ends behind them, or has another array.
pub record BeginsCheck (paths : List (List ℕ)) (goods : List GoodCopies) (found : Found) (front : List Token) : Type 0 where
  pub ends : front ++ closing ≡ json_tokens (check_json paths goods found)
  pub goes_on : (key : List ℕ) (values : List Json) → ((front ++ then_array key) ++ flat_map json_tokens values) ++ closing
      ≡ json_tokens (json_object (check_members paths goods found ++ (key, json_array values) ∷ []))
