use Rattle.std.proofs.Common.{rules, ◌≡◌, ◌<◌, ◌≤◌, true, length, ◌∙◌}
use Rattle.std.specs.List.{list_all}
use Rattle.ldm_words.specs.Numbers.{is_digit}
use Rattle.ldm_words.proofs.NumberLaws.{text_is, digits_read, parsed}
use Rattle.ldm_words.proofs.number.read_number.Goals as goal

pub returns-in_err-text : goal.returns-in_err-text
returns-in_err-text c =
    let digits : list_all is_digit c.args.word.now ≡ true = cc in
    absurd (digits_read c.from_utf8.result c.args.word.now _ c.from_utf8.ensures.cases c.in_err-text.ensures.value digits)

pub returns : goal.returns
returns c =
    let digits : list_all is_digit c.args.word.now ≡ true = cc in
    let some : 0 < length c.args.word.now = search rules in
    let few : length c.args.word.now ≤ 20 = search rules in
    let text = text_is c.from_utf8.result c.in_ok-text.text c.args.word.now _ c.from_utf8.ensures.cases c.in_ok-text.ensures.value in
    c.ok-2.ensures.value ∙ parsed c.args.word.now c.parse.result digits some few (rw text at c.parse.ensures.value.0)
