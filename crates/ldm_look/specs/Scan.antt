-- What is said of each image alone: the group and the disk that it is of, or that its copy is closed, or why it is neither.
use Rattle.std.specs.Prelude.{◌≡◌, ℕ, List, [], ◌∷◌, ◌++◌, flat_map, map, codes, decimal, slice_get, Option, Some, None, Result, Ok, Err}
use Rattle.std.specs.List.{enumerate_from}
use Rattle.std.specs.Option.{option_map}
use Rattle.json.specs.Json.{Json, null, string}
use Rattle.ldm_bytes.specs.Guid.{own_guid}
use Rattle.ldm_json.specs.Values.{number_json, maybe_text_json, name_json, maybe_name_json, guid_json, said_json, json_object, json_array}
use Rattle.ldm_label.specs.declared.Label.{Label}
use Rattle.ldm_label.specs.declared.LabelFault.{LabelFault}
use Rattle.ldm_label.specs.declared.Style.{Style}
use Rattle.ldm_label.specs.LabelOf.{label_of}
use Rattle.ldm_group.specs.Database.{Database}
use Rattle.ldm_group.specs.Looks.{disk_with}
use Rattle.ldm_copy.specs.declared.answer.CopyState.{CopyState}
use Rattle.ldm_copy.specs.declared.answer.CopyState.TheVariants as copies
use Rattle.ldm_copy.specs.declared.answer.CopyFault.{CopyFault}
use Rattle.ldm_copy.specs.Copy.{IsCopyOf, config_area}
use Rattle.ldm_text.specs.Texts.{text_of_label_fault}
use Rattle.ldm_text.specs.Records.{text_of_copy_fault}
use Rattle.ldm_words.specs.Names.{esc}
use Rattle.ldm_look.specs.declared.foreign.Foreign.{Foreign}
use Rattle.ldm_look.specs.LabelJson.{style_word}
use Rattle.ldm_look.specs.Foreign.{foreign_in, format_word, text_of_foreign}
use Rattle.ldm_look.specs.declared.scanned.Membership.{Membership}
use Rattle.ldm_look.specs.declared.scanned.Scanned.{Scanned}
use Rattle.ldm_look.specs.declared.scanned.Scanned.TheVariants.{BadLabel, BadCopy, Closed, Open}

-- ---- what an image is

-- the group of an open copy, and the disk of it that has the label's GUID
abbrev pub membership_of : Label → Database → Membership
membership_of label db =
    record {
      group = db.header.name;
      group_guid = db.header.guid;
      seq = db.header.seq;
      disk = option_map (λ d. d.head.name) (disk_with label.disk_guid db.records);
      disk_guid = label.disk_guid;
      style = label.style;
    }

abbrev pub scanned_copy : Label → Result CopyState CopyFault → Scanned
scanned_copy label (Ok copies.Closed) = Closed label.style label.disk_guid
scanned_copy label (Ok (copies.Valid db)) = Open (membership_of label db)
scanned_copy label (Err fault) = BadCopy label.style fault

-- what an image with this label is, by the copy in the config area that the label says
abbrev pub IsScannedAs : Result Label LabelFault → List ℕ → Scanned → Type 0
IsScannedAs (Err fault) image scanned = scanned ≡ BadLabel fault (foreign_in fault image)
IsScannedAs (Ok label) image scanned =
    (copy : Result CopyState CopyFault) × IsCopyOf (config_area label image) label.area_sectors copy × (scanned ≡ scanned_copy label copy)

abbrev pub IsScanned : List ℕ → Scanned → Type 0
IsScanned image scanned = IsScannedAs (label_of image) image scanned

-- each image, in their order
abbrev pub AreScanned : List (List ℕ) → List Scanned → Type 0
AreScanned [] [] = Unit {0}
AreScanned (image ∷ images) (s ∷ scanned) = IsScanned image s × AreScanned images scanned
AreScanned images scanned = ⊥

-- ---- lines

-- disk NAME GUID, or no disk GUID where the group has no such disk
abbrev pub text_of_its_disk : Option (List ℕ) → List ℕ
text_of_its_disk None = codes " no disk "
text_of_its_disk (Some name) = codes " disk " ++ (esc name ++ codes " ")

unfoldable pub text_of_membership : Membership → List ℕ
text_of_membership m =
    ((codes " group " ++ esc m.group) ++ (codes " " ++ own_guid m.group_guid))
    ++ (text_of_its_disk m.disk ++ own_guid m.disk_guid)
    ++ (codes " sequence " ++ decimal m.seq)
    ++ codes "\n"

-- what follows image I
abbrev pub text_of_scanned : Scanned → List ℕ
text_of_scanned (BadLabel fault foreign) = codes " refused: " ++ (text_of_label_fault fault ++ (text_of_foreign foreign ++ codes "\n"))
text_of_scanned (BadCopy style fault) = codes " refused: " ++ (text_of_copy_fault fault ++ codes "\n")
text_of_scanned (Closed style disk) = codes " closed disk " ++ (own_guid disk ++ codes "\n")
text_of_scanned (Open m) = text_of_membership m

abbrev pub line_of_scanned : ℕ × Scanned → List ℕ
line_of_scanned (image, scanned) = (codes "image " ++ decimal image) ++ text_of_scanned scanned

-- a line for each image
abbrev pub text_of_scan : List Scanned → List ℕ
text_of_scan scanned = flat_map line_of_scanned (enumerate_from 0 scanned)

-- ---- JSON

-- an image in this state, its word, and what is known of it
abbrev pub state_json : List (List ℕ) → ℕ → List ℕ → Json → Json → Json → Json → Json → Json → Json → Json → Json
state_json paths image state group group_guid disk disk_guid seq reason format style =
    json_object (
    (codes "image", number_json image)
    ∷ (codes "path", maybe_text_json (slice_get paths image))
    ∷ (codes "state", string state)
    ∷ (codes "group", group)
    ∷ (codes "group_guid", group_guid)
    ∷ (codes "disk", disk)
    ∷ (codes "disk_guid", disk_guid)
    ∷ (codes "sequence", seq)
    ∷ (codes "reason", reason)
    ∷ (codes "format", format)
    ∷ (codes "partition_style", style)
    ∷ [])

abbrev pub refused_json : List (List ℕ) → ℕ → List ℕ → Option Foreign → Option Style → Json
refused_json paths image fault foreign style =
    state_json paths image (codes "refused") null null null null null (said_json fault) (maybe_text_json (option_map format_word foreign))
    (maybe_text_json (option_map style_word style))

abbrev pub scanned_json : List (List ℕ) → ℕ × Scanned → Json
scanned_json paths (image, BadLabel fault foreign) = refused_json paths image (text_of_label_fault fault) foreign None
scanned_json paths (image, BadCopy style fault) = refused_json paths image (text_of_copy_fault fault) None (Some style)
scanned_json paths (image, Closed style disk) =
    state_json paths image (codes "closed") null null null (guid_json disk) null null null (string (style_word style))
scanned_json paths (image, Open m) =
    state_json paths image (codes "open") (name_json m.group) (guid_json m.group_guid) (maybe_name_json m.disk) (guid_json m.disk_guid) (number_json m.seq) null null
    (string (style_word m.style))

-- an object for each image
abbrev pub scan_jsons : List (List ℕ) → List Scanned → List Json
scan_jsons paths scanned = map (scanned_json paths) (enumerate_from 0 scanned)

abbrev pub scan_json : List (List ℕ) → List Scanned → Json
scan_json paths scanned = json_array (scan_jsons paths scanned)
