-- The words of a repair: `repair on IMAGE...`. Words that have a reading as a job keep it.
use Rattle.std.specs.Prelude.{ℕ, ◌&&◌, nat_lt, nat_le, List, ◌∷◌, length, codes, bytes_eq, is_some, Option, Some, None, if◌then◌else◌}
use Rattle.ldm_words.specs.Jobs.{job_of}

-- the number of images, which is 1 to 64
abbrev pub images_within : ℕ → Option ℕ
images_within images = if nat_lt 0 images && nat_le images 64 then Some images else None

abbrev pub repair_in : List (List ℕ) → Option ℕ
repair_in (repair ∷ on ∷ images) = if bytes_eq repair (codes "repair") && bytes_eq on (codes "on") then images_within (length images) else None
repair_in words = None

-- how many images the words name, where they ask for a repair
unfoldable pub repair_of : List (List ℕ) → Option ℕ
repair_of words = if is_some (job_of words) then None else repair_in words
