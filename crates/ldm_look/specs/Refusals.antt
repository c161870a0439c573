-- Refusals for a reason that is no fault of the images.
use Rattle.std.specs.Prelude.{ℕ, List, Option, None}
use Rattle.ldm_words.specs.declared.job.Format.{Format}
use Rattle.ldm_words.specs.declared.job.Format.TheVariants.{Lines, Json}
use Rattle.ldm_words.specs.declared.status.Status.TheVariants.{Refused}
use Rattle.ldm_json.specs.Values.{line_of_json}
use Rattle.ldm_text.specs.Texts.{text_of_refusal}
use Rattle.ldm_look.specs.FaultJson.{naming, named_json, refusal_json}
use Rattle.ldm_look.specs.Said.{Answer}

-- what is said of this reason, which is of this kind, and names an object at most, by its id
abbrev pub said_reason : Format → List ℕ → Option ℕ → List ℕ → List ℕ
said_reason Lines kind id reason = text_of_refusal reason
said_reason (Json paths) kind id reason = line_of_json (refusal_json (named_json paths kind (naming None None None id) reason))

abbrev pub refusal_for : Format → List ℕ → Option ℕ → List ℕ → Answer
refusal_for format kind id reason = (said_reason format kind id reason, Refused)
