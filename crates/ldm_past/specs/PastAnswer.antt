-- What is answered to a job that reads past damage: the job's own answer over the views of the images, which get over what is
-- damaged. `check` says besides what that is.
use Rattle.std.specs.Prelude.{ℕ, ◌++◌, ◌&&◌, List, [], ◌∷◌, codes, decimal, flat_map, is_none, slice_get, if◌then◌else◌, Option, Some, None}
use Rattle.std.specs.List.{enumerate_from}
use Rattle.std.specs.Option.{option_map}
use Rattle.json.specs.Json.{Json, null}
use Rattle.ldm_json.specs.Values.{number_json, maybe_text_json, said_json, json_object, json_array, line_of_json}
use Rattle.ldm_words.specs.declared.job.Format.{Format}
use Rattle.ldm_words.specs.declared.job.Format.TheVariants as formats
use Rattle.ldm_words.specs.declared.job.Job.{Job}
use Rattle.ldm_words.specs.declared.job.Job.TheVariants.{Check}
use Rattle.ldm_words.specs.declared.status.Status.TheVariants.{Done}
use Rattle.ldm_words.specs.Jobs.{job_of}
use Rattle.ldm_label.specs.declared.LabelFault.{LabelFault}
use Rattle.ldm_label.specs.declared.counting.GoodCopies.{GoodCopies}
use Rattle.ldm_copy.specs.declared.answer.CopyFault.{CopyFault}
use Rattle.ldm_copy.specs.declared.found.Found.{Found}
use Rattle.ldm_text.specs.Texts.{text_of_label_fault}
use Rattle.ldm_text.specs.Records.{text_of_copy_fault}
use Rattle.ldm_look.specs.Said.{Answer}
use Rattle.ldm_look.specs.Check.{text_of_check}
use Rattle.ldm_look.specs.CheckJson.{goods_of, check_members}
use Rattle.ldm_look.specs.Looks.{IsFormattedAnswer}
use Rattle.ldm_run.specs.Answer.{IsJobAnswer, IsReadingAnswer}
use Rattle.ldm_damage.specs.declared.damage.Damage.{Damage}
use Rattle.ldm_damage.specs.Views.{AreDamaged}

-- ---- lines

-- image I mended: the fault of its label
abbrev pub text_of_mended : ℕ → Option LabelFault → List ℕ
text_of_mended image None = []
text_of_mended image (Some fault) = codes "image " ++ decimal image ++ codes " mended: " ++ text_of_label_fault fault ++ codes "\n"

-- image I passed over: the fault of its copy of the database
abbrev pub text_of_passed : ℕ → Option CopyFault → List ℕ
text_of_passed image None = []
text_of_passed image (Some fault) = codes "image " ++ decimal image ++ codes " passed over: " ++ text_of_copy_fault fault ++ codes "\n"

abbrev pub text_of_damage : ℕ × Damage → List ℕ
text_of_damage (image, damage) = text_of_mended image damage.label ++ text_of_passed image damage.copy

-- the lines of what is damaged, image by image
abbrev pub text_of_damages : List Damage → List ℕ
text_of_damages damages = flat_map text_of_damage (enumerate_from 0 damages)

-- ---- JSON

-- a text, or null where there is none
abbrev pub maybe_said_json : Option (List ℕ) → Json
maybe_said_json None = null
maybe_said_json (Some text) = said_json text

-- an image, and the texts of the fault of its label that was mended, and of the fault of its copy that was passed over
abbrev pub damage_json : List (List ℕ) → ℕ → Option (List ℕ) → Option (List ℕ) → Json
damage_json paths image mended passed_over =
    json_object (
    (codes "image", number_json image)
    ∷ (codes "path", maybe_text_json (slice_get paths image))
    ∷ (codes "mended", maybe_said_json mended)
    ∷ (codes "passed_over", maybe_said_json passed_over)
    ∷ [])

-- what is damaged on an image, if anything is
abbrev pub damage_jsons_at : List (List ℕ) → ℕ × Damage → List Json
damage_jsons_at paths (image, damage) =
    if is_none damage.label && is_none damage.copy then []
    else damage_json paths image (option_map text_of_label_fault damage.label) (option_map text_of_copy_fault damage.copy) ∷ []

abbrev pub damage_jsons : List (List ℕ) → List Damage → List Json
damage_jsons paths damages = flat_map (damage_jsons_at paths) (enumerate_from 0 damages)

-- What `check` says of the views, whose images have so many good copies, and what is damaged.
abbrev pub past_check_json : List (List ℕ) → List Damage → List GoodCopies → Found → Json
past_check_json paths damages goods found = json_object (check_members paths goods found ++ (codes "damaged", json_array (damage_jsons paths damages)) ∷ [])

-- ---- answers

abbrev pub said_past_check : Format → List Damage → List GoodCopies → Found → List ℕ
said_past_check formats.Lines damages goods found = text_of_damages damages ++ text_of_check found
said_past_check (formats.Json paths) damages goods found = line_of_json (past_check_json paths damages goods found)

-- of a group that is found over these views
abbrev pub past_check_answer : Format → List Damage → List (List ℕ) → Found → Answer
past_check_answer format damages views found = (said_past_check format damages (goods_of views found.labels) found, Done)

-- the format of `check`, where the job is that
abbrev pub format_of_check : Job → Option Format
format_of_check (Check format) = Some format
format_of_check job = None

-- the answer of `check` in this format, or else of another job, over these views, which get over these damages
abbrev pub IsAnswerPast : Option Format → Job → List Damage → List (List ℕ) → List ℕ → Answer → Type 0
IsAnswerPast (Some format) job damages views input answer = IsFormattedAnswer format (past_check_answer format damages views) views answer
IsAnswerPast None job damages views input answer = IsJobAnswer job views input answer

abbrev pub IsPastReading : Option (Job × ℕ) → List Damage → List (List ℕ) → List ℕ → Answer → Type 0
IsPastReading None damages views input answer = IsReadingAnswer None views input answer
IsPastReading (Some reading) damages views input answer = IsAnswerPast (format_of_check reading.0) reading.0 damages views input answer

-- what is answered to these words past damage
pub record IsPastAnswer (words images : List (List ℕ)) (input : List ℕ) (answer : Answer) : Type 0 where
  pub damages : List Damage
  pub views : List (List ℕ)
  pub are : AreDamaged images damages views
  pub is : IsPastReading (job_of words) damages views input answer
