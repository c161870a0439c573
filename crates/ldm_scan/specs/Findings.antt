-- What `scan` says of images of which some may not open or be read. What is said of one is the same whatever the others are.
use Rattle.std.specs.Prelude.{◌≡◌, ℕ, ◌+◌, Bool, true, false, List, [], ◌∷◌, ◌++◌, flat_map, map, codes, decimal, Option, Some, None}
use Rattle.std.specs.List.{enumerate_from}
use Rattle.json.specs.Json.{Json, null}
use Rattle.ldm_json.specs.Values.{said_json, json_array, line_of_json}
use Rattle.ldm_host.specs.Seen.{image}
use Rattle.ldm_host.specs.declared.host.DiskRange.{DiskRange}
use Rattle.ldm_words.specs.declared.job.Format.{Format}
use Rattle.ldm_words.specs.declared.job.Format.TheVariants as formats
use Rattle.ldm_words.specs.declared.status.Status.TheVariants.{Done}
use Rattle.ldm_look.specs.declared.scanned.Scanned.{Scanned}
use Rattle.ldm_look.specs.Said.{Answer}
use Rattle.ldm_look.specs.Scan.{IsScanned, line_of_scanned, state_json, scanned_json}
use Rattle.ldm_host.specs.Failed.{fails_on}
use Rattle.ldm_scan.specs.declared.finding.Finding.{Finding}
use Rattle.ldm_scan.specs.declared.finding.Finding.TheVariants.{Unopened, Unread, Known}

-- ---- what is found

-- An image by its cause why it didn't open is a disk of the host where there is no cause: how many disks it is.
abbrev pub disks_of : Option (List ℕ) → ℕ
disks_of None = 1
disks_of (Some cause) = 0

-- how many of these images opened
abbrev pub opened_count : List (Option (List ℕ)) → ℕ
opened_count [] = 0
opened_count (cause ∷ causes) = disks_of cause + opened_count causes

-- what is found of a disk with these bytes, by whether a read of it failed
abbrev pub IsDiskFinding : Bool → List ℕ → Finding → Type 0
IsDiskFinding true bytes finding = finding ≡ Unread
IsDiskFinding false bytes finding = (scanned : Scanned) × IsScanned bytes scanned × (finding ≡ Known scanned)

-- what is found of an image that would be this disk, by its cause and the reads that failed
abbrev pub IsFinding : List DiskRange → List (List ℕ) → ℕ → Option (List ℕ) → Finding → Type 0
IsFinding failed images disk None finding = IsDiskFinding (fails_on disk failed) (image images disk) finding
IsFinding failed images disk (Some cause) finding = finding ≡ Unopened cause

-- what is found of all images, in their order, where those that opened are the disks from this one on
abbrev pub AreFindings : List DiskRange → List (List ℕ) → ℕ → List (Option (List ℕ)) → List Finding → Type 0
AreFindings failed images disk [] [] = Unit {0}
AreFindings failed images disk (cause ∷ causes) (finding ∷ findings) =
    IsFinding failed images disk cause finding × AreFindings failed images (disk + disks_of cause) causes findings
AreFindings failed images disk causes findings = ⊥

-- ---- lines

abbrev pub line_of_finding : ℕ × Finding → List ℕ
line_of_finding (number, Unopened cause) = (codes "image " ++ decimal number) ++ (codes " cannot open: " ++ (cause ++ codes "\n"))
line_of_finding (number, Unread) = (codes "image " ++ decimal number) ++ codes " cannot read\n"
line_of_finding (number, Known scanned) = line_of_scanned (number, scanned)

-- a line for each image
abbrev pub text_of_findings : List Finding → List ℕ
text_of_findings findings = flat_map line_of_finding (enumerate_from 0 findings)

-- ---- JSON

-- an image in this state, in which nothing is known of it, and why
abbrev pub unknown_json : List (List ℕ) → ℕ → List ℕ → List ℕ → Json
unknown_json paths number state reason = state_json paths number state null null null null null (said_json reason) null null

abbrev pub finding_json : List (List ℕ) → ℕ × Finding → Json
finding_json paths (number, Unopened cause) = unknown_json paths number (codes "unopened") cause
finding_json paths (number, Unread) = unknown_json paths number (codes "unread") (codes "a read failed")
finding_json paths (number, Known scanned) = scanned_json paths (number, scanned)

-- an object for each image
abbrev pub finding_jsons : List (List ℕ) → List Finding → List Json
finding_jsons paths findings = map (finding_json paths) (enumerate_from 0 findings)

-- ---- the answer

abbrev pub said_findings : Format → List Finding → List ℕ
said_findings formats.Lines findings = text_of_findings findings
said_findings (formats.Json paths) findings = line_of_json (json_array (finding_jsons paths findings))

-- What is answered of images with these causes, when these reads failed and the disks hold these images. There is one answer.
abbrev pub IsFindingsAnswer : Format → List (Option (List ℕ)) → List DiskRange → List (List ℕ) → Answer → Type 0
IsFindingsAnswer format causes failed images answer =
    (findings : List Finding) × AreFindings failed images 0 causes findings × (answer ≡ (said_findings format findings, Done))
