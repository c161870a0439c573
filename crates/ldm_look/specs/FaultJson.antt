-- The JSON that refuses: what kind of fault there is, the images, the rule and the id that it names, and its text.
use Rattle.std.specs.Prelude.{ℕ, List, [], ◌∷◌, codes, Option, Some, None}
use Rattle.json.specs.Json.{Json, string}
use Rattle.ldm_json.specs.Values.{maybe_json, maybe_text_json, said_json, json_object}
use Rattle.ldm_copy.specs.declared.fault.OpenFault.{OpenFault}
use Rattle.ldm_copy.specs.declared.fault.OpenFault.TheVariants.{Label, SameDisk, Copy, NoCopy, Split, Stranger, Rule, Absent, FewDisks, AreaSmall, AreaClash}
use Rattle.ldm_look.specs.Opening.{text_of_open_fault}
use Rattle.ldm_look.specs.Paths.{path_of}
use Rattle.ldm_look.specs.declared.fault_json.Named.{Named}

abbrev pub kind_of_fault : OpenFault → List ℕ
kind_of_fault (Label i fault) = codes "label"
kind_of_fault (SameDisk i j) = codes "same disk"
kind_of_fault (Copy i fault) = codes "copy"
kind_of_fault NoCopy = codes "no copy"
kind_of_fault (Split i j) = codes "split"
kind_of_fault (Stranger i) = codes "stranger"
kind_of_fault (Rule fault) = codes "rule"
kind_of_fault (Absent id) = codes "absent"
kind_of_fault FewDisks = codes "few disks"
kind_of_fault (AreaSmall i) = codes "area small"
kind_of_fault (AreaClash i) = codes "area clash"

abbrev pub naming : Option ℕ → Option ℕ → Option ℕ → Option ℕ → Named
naming image other rule id = record { image = image; other = other; rule = rule; id = id }

-- the image that a fault names, the other one, the rule, and the id of the disk or the object
abbrev pub fault_names : OpenFault → Named
fault_names (Label i fault) = naming (Some i) None None None
fault_names (SameDisk i j) = naming (Some i) (Some j) None None
fault_names (Copy i fault) = naming (Some i) None None None
fault_names NoCopy = naming None None None None
fault_names (Split i j) = naming (Some i) (Some j) None None
fault_names (Stranger i) = naming (Some i) None None None
fault_names (Rule fault) = naming None None (Some fault.rule) (Some fault.id)
fault_names (Absent id) = naming None None None (Some id)
fault_names FewDisks = naming None None None None
fault_names (AreaSmall i) = naming (Some i) None None None
fault_names (AreaClash i) = naming (Some i) None None None

-- a fault of this kind, which names these and has this text
abbrev pub named_json : List (List ℕ) → List ℕ → Named → List ℕ → Json
named_json paths kind named text =
    json_object (
    (codes "kind", string kind)
    ∷ (codes "image", maybe_json named.image)
    ∷ (codes "path", maybe_text_json (path_of paths named.image))
    ∷ (codes "other_image", maybe_json named.other)
    ∷ (codes "other_path", maybe_text_json (path_of paths named.other))
    ∷ (codes "rule", maybe_json named.rule)
    ∷ (codes "id", maybe_json named.id)
    ∷ (codes "reason", said_json text)
    ∷ [])

-- the fault of images that have these words
abbrev pub fault_json : List (List ℕ) → OpenFault → Json
fault_json paths fault = named_json paths (kind_of_fault fault) (fault_names fault) (text_of_open_fault fault)

-- a reason of this kind, which names nothing
abbrev pub unnamed_json : List ℕ → List ℕ → Json
unnamed_json kind text = named_json [] kind (naming None None None None) text

-- what refuses for it
abbrev pub refusal_json : Json → Json
refusal_json fault = json_object ((codes "refused", fault) ∷ [])
