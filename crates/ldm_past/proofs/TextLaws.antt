-- What is made of parts that code names is what the definitions say.
use Rattle.std.proofs.Common.{◌≡◌, ◌∷◌, [], ℕ, List, Option, refl, subst}
use Rattle.std.specs.Prelude.{codes, slice_get}
use Rattle.json.specs.Json.{Json as Value}
use Rattle.ldm_words.specs.declared.job.Format.{Format}
use Rattle.ldm_words.specs.declared.job.Format.TheVariants.{Lines, Json}
use Rattle.ldm_label.specs.declared.counting.GoodCopies.{GoodCopies}
use Rattle.ldm_copy.specs.declared.found.Found.{Found}
use Rattle.ldm_damage.specs.declared.damage.Damage.{Damage}
use Rattle.ldm_look.specs.Said.{Answer}
use Rattle.ldm_words.specs.declared.status.Status.TheVariants.{Done}
use Rattle.ldm_look.specs.Looks.{AreCounted}
use Rattle.ldm_json.specs.Values.{number_json, maybe_text_json, json_object, line_of_json}
use Rattle.ldm_past.specs.PastAnswer.{maybe_said_json, damage_json, past_check_json, said_past_check, past_check_answer}

pub damage_is : (paths : List (List ℕ)) (image : ℕ) (mended passed_over : Option (List ℕ)) (path : Option (List ℕ)) (first second : Value) → path ≡ slice_get paths image → first ≡ maybe_said_json mended
    → second ≡ maybe_said_json passed_over
    → json_object ((codes "image", number_json image) ∷ (codes "path", maybe_text_json path) ∷ (codes "mended", first) ∷ (codes "passed_over", second) ∷ []) ≡ damage_json paths image mended passed_over
damage_is paths image mended passed_over path first second p m o = rw (p, m, o) refl

-- what is answered goes by the good copies only where they are counted
pub counted_past : (format : Format) (damages : List Damage) (views : List (List ℕ)) (goods : List GoodCopies) (found : Found) (answer : Answer) → AreCounted format views found.labels goods
    → answer ≡ (said_past_check format damages goods found, Done) → answer ≡ past_check_answer format damages views found
counted_past Lines damages views goods found answer counted is = is
counted_past (Json paths) damages views goods found answer counted is = subst (λ (l : List GoodCopies). answer ≡ (line_of_json (past_check_json paths damages l found), Done)) counted is
