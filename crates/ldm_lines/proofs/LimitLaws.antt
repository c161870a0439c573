-- What a line says keeps the grammar's limits.
use Rattle.std.proofs.Common.{◌≡◌, ℕ, cond, List, [], ◌∷◌, IfOk, IfSome, sym, subst, Option, Result, Ok, Err}
use Rattle.std.specs.Prelude.{bytes_eq, codes}
use Rattle.ldm_words.specs.declared.command.Command.{Command}
use Rattle.ldm_words.specs.declared.command.Command.TheVariants.{Begin, Commit, Cancel}
use Rattle.ldm_words.specs.Commands.{command_of}
use Rattle.ldm_words.specs.Limits.{IsCommand}
use Rattle.ldm_words.proofs.LimitLaws.{one_of, is_command}
use Rattle.ldm_lines.specs.Readings.{alone, line_of, LinesKeepLimits}

is_alone : (command : Command) (tokens : List (List ℕ)) → IsCommand command → IfSome (alone command tokens) IsCommand
is_alone command [] is = is
is_alone command (token ∷ tokens) is = tt

pub is_line : (tokens : List (List ℕ)) → IfSome (line_of tokens) IsCommand
unfolding line_of
is_line [] = tt
is_line (word ∷ tokens) =
    let third = cond (bytes_eq word (codes "cancel")) (alone Cancel tokens) (command_of (word ∷ tokens)) in
    let second = cond (bytes_eq word (codes "commit")) (alone Commit tokens) third in
    one_of IsCommand (bytes_eq word (codes "begin")) (alone Begin tokens) second (is_alone Begin tokens tt)
    (one_of IsCommand (bytes_eq word (codes "commit")) (alone Commit tokens) third (is_alone Commit tokens tt)
    (one_of IsCommand (bytes_eq word (codes "cancel")) (alone Cancel tokens) (command_of (word ∷ tokens)) (is_alone Cancel tokens tt) (is_command (word ∷ tokens))))

pub lines_keep : LinesKeepLimits
lines_keep tokens command is = subst (λ (o : Option Command). IfSome o IsCommand) is (is_line tokens)

pub line_keeps : {E : Type 0} (result : Result (Option Command) E) (tokens : List (List ℕ)) → IfOk result (λ command. command ≡ line_of tokens) → IfOk result (λ found. IfSome found IsCommand)
line_keeps (Err e) tokens is = tt
line_keeps (Ok found) tokens is = subst (λ (o : Option Command). IfSome o IsCommand) (sym is) (is_line tokens)
