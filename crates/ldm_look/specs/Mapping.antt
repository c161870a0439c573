-- What is answered where sectors of a volume are to be mapped.
use Rattle.std.specs.Prelude.{ℕ, ◌+◌, ◌==◌, ◌||◌, nat_lt, Bool, List, [], codes, Option, Some, None, Result, Ok, Err, if◌then◌else◌}
use Rattle.ldm_records.specs.declared.types.Volume.{Volume}
use Rattle.ldm_group.specs.Looks.{volume_named}
use Rattle.ldm_places.specs.declared.shape.LayoutFault.{LayoutFault}
use Rattle.ldm_places.specs.Layouts.{Layout}
use Rattle.ldm_layout.specs.Volumes.{layout_of}
use Rattle.ldm_copy.specs.declared.found.Found.{Found}
use Rattle.ldm_json.specs.Values.{line_of_json}
use Rattle.ldm_text.specs.Texts.{text_of_refusal}
use Rattle.ldm_look.specs.FaultJson.{unnamed_json, refusal_json}
use Rattle.ldm_look.specs.Map.{text_of_map}
use Rattle.ldm_look.specs.MapJson.{map_json}
use Rattle.ldm_look.specs.Said.{Answer}
use Rattle.ldm_words.specs.declared.job.Format.{Format}
use Rattle.ldm_words.specs.declared.job.Format.TheVariants.{Lines, Json}
use Rattle.ldm_words.specs.declared.status.Status.TheVariants.{Done, Refused}

-- there is no sector, or there are more than 4096, or the last is behind the volume
abbrev pub is_bad_range : ℕ → ℕ → ℕ → Bool
is_bad_range size first count = (count == 0) || (nat_lt 4096 count || nat_lt size (first + count))

abbrev pub said_sectors : Format → Found → Layout → ℕ → ℕ → List ℕ
said_sectors Lines found layout first count = text_of_map found layout first count
said_sectors (Json paths) found layout first count = line_of_json (map_json paths found layout first count)

-- what is said of the sectors; a volume of a group that was found has a layout
abbrev pub said_by_layout : Format → Found → ℕ → ℕ → Result Layout LayoutFault → List ℕ
said_by_layout format found first count (Ok layout) = said_sectors format found layout first count
said_by_layout format found first count (Err fault) = []

-- the refusal for this reason, which is its kind too
abbrev pub said_refusal : Format → List ℕ → List ℕ
said_refusal Lines reason = text_of_refusal reason
said_refusal (Json paths) reason = line_of_json (refusal_json (unnamed_json reason reason))

abbrev pub range_answer : Format → Found → ℕ → ℕ → Volume → Answer
range_answer format found first count v =
    if is_bad_range v.size first count then (said_refusal format (codes "bad range"), Refused)
    else (said_by_layout format found first count (layout_of found.db.records v), Done)

abbrev pub volume_answer : Format → Found → ℕ → ℕ → Option Volume → Answer
volume_answer format found first count None = (said_refusal format (codes "no volume"), Refused)
volume_answer format found first count (Some v) = range_answer format found first count v

-- where so many sectors of the volume of this name lie, or why that isn't said
abbrev pub map_answer : Format → List ℕ → ℕ → ℕ → Found → Answer
map_answer format name first count found = volume_answer format found first count (volume_named name found.db.records)
