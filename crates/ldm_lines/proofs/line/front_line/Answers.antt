use Rattle.std.proofs.Common.{rules, tests, ℕ, ◌+◌, ◌<◌, List, length, take, subst, sym, ◌∙◌}
use Rattle.std.specs.List.{position_or_len}
use Rattle.std.proofs.lemmas.Iterator.{YieldsList-from_slice}
use Rattle.std.proofs.lemmas.Iterator.Search.{position_from_yields_List}
use Rattle.ldm_lines.specs.Lines.{is_newline, IsFrontLine}
use Rattle.ldm_words.proofs.SpelledLaws.{whole_tail}
use Rattle.ldm_lines.proofs.LineLaws.{no_lines, front_at, whole_line, found_at, found_none}
use Rattle.ldm_lines.proofs.line.front_line.Goals as goal

pub returns-then-is_empty : goal.returns-then-is_empty
returns-then-is_empty c = no_lines c.args.script.now (search rules)

pub returns-in-Some : goal.returns-in-Some
returns-in-Some c =
    let script = c.args.script.now in
    let place = c.in-Some.place in
    let found = found_at (position_or_len is_newline script) (length script) place
    (sym c.in-Some.is ∙ position_from_yields_List is_newline _ _ c.position.result c.position.ensures.ran (YieldsList-from_slice script cc) (λ x b q k. search (rules, tests))) in
    subst (λ (rest : List ℕ). IsFrontLine script (take place script) rest) (sym (whole_tail (place + 1) script)) (front_at script place found.0 found.1)

pub returns-in-None : goal.returns-in-None
returns-in-None c =
    let script = c.args.script.now in
    let some : 0 < length script = search rules in
    whole_line script some (found_none (position_or_len is_newline script) (length script)
    (sym c.in-None.is ∙ position_from_yields_List is_newline _ _ c.position.result c.position.ensures.ran (YieldsList-from_slice script cc) (λ x b q k. search (rules, tests))))
