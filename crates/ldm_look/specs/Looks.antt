-- What is answered by the jobs that look at the disks: disk, records, scan, show, check and map.
use Rattle.std.specs.Prelude.{◌≡◌, ℕ, List, [], Option, Some, None, Result, Ok, Err}
use Rattle.ldm_host.specs.Seen.{image}
use Rattle.ldm_label.specs.declared.Label.{Label}
use Rattle.ldm_label.specs.declared.LabelFault.{LabelFault}
use Rattle.ldm_label.specs.LabelOf.{label_of}
use Rattle.ldm_copy.specs.declared.answer.CopyState.{CopyState}
use Rattle.ldm_copy.specs.declared.answer.CopyFault.{CopyFault}
use Rattle.ldm_copy.specs.Copy.{IsCopyOf, config_area}
use Rattle.ldm_words.specs.declared.job.Format.{Format}
use Rattle.ldm_words.specs.declared.job.Format.TheVariants.{Lines, Json}
use Rattle.ldm_words.specs.declared.job.Job.{Job}
use Rattle.ldm_words.specs.declared.job.Job.TheVariants.{Disk, Records, Scan, Show, Check, Map}
use Rattle.ldm_words.specs.Jobs.{job_of}
use Rattle.ldm_copy.specs.declared.fault.OpenFault.{OpenFault}
use Rattle.ldm_copy.specs.declared.found.Found.{Found}
use Rattle.ldm_found.specs.Opening.{IsGroupIn}
use Rattle.ldm_text.specs.Texts.{text_of_label, text_of_refusal}
use Rattle.ldm_text.specs.Records.{text_of_copy}
use Rattle.ldm_look.specs.Opening.{text_of_open_fault}
use Rattle.ldm_look.specs.Show.{text_of_show}
use Rattle.ldm_look.specs.Check.{text_of_check}
use Rattle.ldm_look.specs.Mapping.{map_answer}
use Rattle.ldm_look.specs.Said.{Answer}
use Rattle.ldm_json.specs.Values.{line_of_json}
use Rattle.ldm_copy.specs.declared.fault.OpenFault.TheVariants as faults
use Rattle.ldm_look.specs.FaultJson.{fault_json, refusal_json}
use Rattle.ldm_look.specs.LabelJson.{label_json}
use Rattle.ldm_look.specs.ShowJson.{show_json}
use Rattle.ldm_label.specs.declared.counting.GoodCopies.{GoodCopies}
use Rattle.ldm_look.specs.CheckJson.{goods_of, check_json}
use Rattle.ldm_look.specs.RecordsJson.{records_json}
use Rattle.ldm_look.specs.declared.scanned.Scanned.{Scanned}
use Rattle.ldm_look.specs.Scan.{AreScanned, text_of_scan, scan_json}
use Rattle.ldm_words.specs.declared.status.Status.TheVariants.{Done, Refused, Usage}

abbrev pub said_fault : Format → OpenFault → List ℕ
said_fault Lines fault = text_of_refusal (text_of_open_fault fault)
said_fault (Json paths) fault = line_of_json (refusal_json (fault_json paths fault))

-- the refusal for this fault of the images
abbrev pub open_refusal : Format → OpenFault → Answer
open_refusal format fault = (said_fault format fault, Refused)

-- ---- one image

abbrev pub said_label : Format → Label → List ℕ
said_label Lines label = text_of_label label
said_label (Json paths) label = line_of_json (label_json label)

-- the label of the only image, or its first fault
abbrev pub disk_answer : Format → Result Label LabelFault → Answer
disk_answer format (Ok label) = (said_label format label, Done)
disk_answer format (Err fault) = open_refusal format (faults.Label 0 fault)

abbrev pub said_copy : Format → CopyState → List ℕ
said_copy Lines state = text_of_copy state
said_copy (Json paths) state = line_of_json (records_json state)

-- a copy of the database, or its first fault
abbrev pub copy_answer : Format → Result CopyState CopyFault → Answer
copy_answer format (Ok state) = (said_copy format state, Done)
copy_answer format (Err fault) = open_refusal format (faults.Copy 0 fault)

-- the copy in the config area that the label says
abbrev pub IsCopyAnswer : Format → Label → List ℕ → Answer → Type 0
IsCopyAnswer format label bytes answer =
    (copy : Result CopyState CopyFault) × IsCopyOf (config_area label bytes) label.area_sectors copy × (answer ≡ copy_answer format copy)

-- that copy, or the label's first fault
abbrev pub IsRecordsAnswer : Format → Result Label LabelFault → List ℕ → Answer → Type 0
IsRecordsAnswer format (Ok label) bytes answer = IsCopyAnswer format label bytes answer
IsRecordsAnswer format (Err fault) bytes answer = answer ≡ open_refusal format (faults.Label 0 fault)

-- ---- a group

-- what is answered of the group, or the refusal for its first fault
abbrev pub group_answer : (Found → Answer) → Result Found OpenFault → Answer
group_answer answer_of (Ok found) = answer_of found
group_answer answer_of (Err fault) = (text_of_refusal (text_of_open_fault fault), Refused)

-- the answer of the group that the images hold
abbrev pub IsGroupAnswer : (Found → Answer) → List (List ℕ) → Answer → Type 0
IsGroupAnswer answer_of images answer = (group : Result Found OpenFault) × IsGroupIn images group × (answer ≡ group_answer answer_of group)

-- what is answered of the group, or the refusal for its first fault, in this format
abbrev pub formatted_answer : Format → (Found → Answer) → Result Found OpenFault → Answer
formatted_answer format answer_of (Ok found) = answer_of found
formatted_answer format answer_of (Err fault) = open_refusal format fault

-- the answer of the group that the images hold
abbrev pub IsFormattedAnswer : Format → (Found → Answer) → List (List ℕ) → Answer → Type 0
IsFormattedAnswer format answer_of images answer =
    (group : Result Found OpenFault) × IsGroupIn images group × (answer ≡ formatted_answer format answer_of group)

abbrev pub said_group : Format → Found → List ℕ
said_group Lines found = text_of_show found
said_group (Json paths) found = line_of_json (show_json paths found)

abbrev pub show_answer : Format → Found → Answer
show_answer format found = (said_group format found, Done)

-- These are the good copies of each image with a label, where they are said in this format.
abbrev pub AreCounted : Format → List (List ℕ) → List Label → List GoodCopies → Type 0
AreCounted Lines images labels goods = Unit {0}
AreCounted (Json paths) images labels goods = goods ≡ goods_of images labels

-- of a group whose images have so many good copies
abbrev pub said_check : Format → List GoodCopies → Found → List ℕ
said_check Lines goods found = text_of_check found
said_check (Json paths) goods found = line_of_json (check_json paths goods found)

abbrev pub check_answer : Format → List (List ℕ) → Found → Answer
check_answer format images found = (said_check format (goods_of images found.labels) found, Done)

-- ---- images alone

-- the answer that says what each image is
abbrev pub IsScanAnswer : (List Scanned → Answer) → List (List ℕ) → Answer → Type 0
IsScanAnswer answer_of images answer = (scanned : List Scanned) × AreScanned images scanned × (answer ≡ answer_of scanned)

abbrev pub said_scan : Format → List Scanned → List ℕ
said_scan Lines scanned = text_of_scan scanned
said_scan (Json paths) scanned = line_of_json (scan_json paths scanned)

abbrev pub scan_answer : Format → List Scanned → Answer
scan_answer format scanned = (said_scan format scanned, Done)

-- ---- by the job

-- the job itself, where it is one that looks
abbrev pub look_in : Job → Option Job
look_in (Disk format) = Some (Disk format)
look_in (Records format) = Some (Records format)
look_in (Scan format) = Some (Scan format)
look_in (Show format) = Some (Show format)
look_in (Check format) = Some (Check format)
look_in (Map name first count format) = Some (Map name first count format)
look_in _ = None

-- the job of words, where it is one that looks
abbrev pub look_of : Option (Job × ℕ) → Option Job
look_of None = None
look_of (Some reading) = look_in reading.0

-- what a job that looks answers
abbrev pub IsLookAnswer : Job → List (List ℕ) → Answer → Type 0
IsLookAnswer (Disk format) images answer = answer ≡ disk_answer format (label_of (image images 0))
IsLookAnswer (Records format) images answer = IsRecordsAnswer format (label_of (image images 0)) (image images 0) answer
IsLookAnswer (Scan format) images answer = IsScanAnswer (scan_answer format) images answer
IsLookAnswer (Show format) images answer = IsFormattedAnswer format (show_answer format) images answer
IsLookAnswer (Check format) images answer = IsFormattedAnswer format (check_answer format images) images answer
IsLookAnswer (Map name first count format) images answer = IsFormattedAnswer format (map_answer format name first count) images answer
IsLookAnswer _ images answer = ⊥

abbrev pub IsAnswerOf : Option Job → List (List ℕ) → Answer → Type 0
IsAnswerOf None images answer = answer ≡ ([], Usage)
IsAnswerOf (Some job) images answer = IsLookAnswer job images answer

-- what is answered to these words; there is one answer
abbrev pub IsLookAt : List (List ℕ) → List (List ℕ) → Answer → Type 0
IsLookAt words images answer = IsAnswerOf (look_of (job_of words)) images answer
