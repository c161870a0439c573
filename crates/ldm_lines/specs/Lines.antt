-- The lines of a script, and the tokens of a line.
use Rattle.std.specs.Prelude.{◌≡◌, ℕ, ◌<◌, ◌==◌, not, Bool, List, [], ◌∷◌, length, filter, if◌then◌else◌, Option, Some, None, Result, Ok, Err}
use Rattle.std.specs.List.{slice_split}
use Rattle.ldm_lines.specs.declared.line.LineError.{LineError}
use Rattle.ldm_lines.specs.declared.line.LineError.TheVariants.{BadLine, NoMemory}

abbrev pub is_space : ℕ → Bool
is_space c = c == 0x20

abbrev pub is_token : List ℕ → Bool
is_token part = not (length part == 0)

-- what stands between spaces, without the empty parts
abbrev pub tokens_of : List ℕ → List (List ℕ)
tokens_of line = filter is_token (slice_split is_space line)

abbrev pub is_newline : ℕ → Bool
is_newline c = c == 0x0A

-- the parts, without a last one that is empty
abbrev pub without_last_empty : List (List ℕ) → List (List ℕ)
without_last_empty [] = []
without_last_empty (part ∷ []) = if length part == 0 then [] else part ∷ []
without_last_empty (part ∷ next ∷ parts) = part ∷ without_last_empty (next ∷ parts)

-- what stands between the bytes 0x0A; a last part that is empty is no line
unfoldable pub lines_of : List ℕ → List (List ℕ)
lines_of script = without_last_empty (slice_split is_newline script)

-- the first line of a script, and the bytes after it
pub record IsFrontLine (script line rest : List ℕ) : Type 0 where
  pub lines_are : lines_of script ≡ line ∷ lines_of rest
  pub shorter : length rest < length script

-- the reading, or BadLine exactly where there is none, or want of memory
abbrev pub ReadsLine : {X : Type 0} → Result X LineError → Option X → Type 0
ReadsLine (Ok x) reading = reading ≡ Some x
ReadsLine (Err BadLine) reading = reading ≡ None
ReadsLine (Err NoMemory) reading = Unit {0}
