-- What the tokens of a line say: a command, or a word of a batch.
use Rattle.std.specs.Prelude.{◌≡◌, ℕ, List, [], ◌∷◌, codes, bytes_eq, if◌then◌else◌, Option, Some, None}
use Rattle.ldm_words.specs.declared.command.Command.{Command}
use Rattle.ldm_words.specs.declared.command.Command.TheVariants.{Begin, Commit, Cancel}
use Rattle.ldm_words.specs.Commands.{command_of}
use Rattle.ldm_words.specs.Limits.{IsCommand}

-- a word that stands alone
abbrev pub alone : Command → List (List ℕ) → Option Command
alone command [] = Some command
alone command (token ∷ tokens) = None

-- What the tokens of a line say: a command, or a word of a batch. On a command line these words have no reading.
unfoldable pub line_of : List (List ℕ) → Option Command
line_of [] = None
line_of (word ∷ tokens) =
    if bytes_eq word (codes "begin") then alone Begin tokens
    else if bytes_eq word (codes "commit") then alone Commit tokens
    else if bytes_eq word (codes "cancel") then alone Cancel tokens
    else command_of (word ∷ tokens)

-- whatever is read keeps the grammar's limits
abbrev pub LinesKeepLimits : Type 0
LinesKeepLimits = (tokens : List (List ℕ)) (command : Command) → line_of tokens ≡ Some command → IsCommand command
