use Rattle.std.proofs.Common.{ap, sym, subst, ◌++◌, ◌∙◌, List, ℕ}
use Rattle.ldm_records.specs.Outlines.{listed}
use Rattle.ldm_records.specs.Plain.{own_spelling, Spells}
use Rattle.ldm_records.specs.Views.{plain_of}
use Rattle.ldm_written.proofs.SpellLaws.{listed_fits, listed_own, listed_short, own_spells}
use Rattle.ldm_written.proofs.records.spelling.Goals as goal

pub push_record-requires-clause-short : goal.push_record-requires-clause-short
push_record-requires-clause-short c = listed_short (plain_of c.args.r.now) (listed c.outline_of-outline.result) c.outline_of-outline.ensures c.record_sound.ensures

pub push_record-requires-clause-fits : goal.push_record-requires-clause-fits
push_record-requires-clause-fits c = listed_fits (plain_of c.args.r.now) (listed c.outline_of-outline.result) c.outline_of-outline.ensures c.record_sound.ensures

pub returns-clause-own : goal.returns-clause-own
returns-clause-own c =
    let listing = listed c.outline_of-outline.result in
    c.from_vec.ensures ∙ c.in_ok-push_record.ensures ∙ ap (λ (x : List ℕ). x ++ own_spelling listing) c.new-out.ensures.items
    ∙ listed_own (plain_of c.args.r.now) listing c.outline_of-outline.ensures

pub returns-clause-again : goal.returns-clause-again
returns-clause-again c = λ filling.
    let p = plain_of c.args.r.now in
    let listing = listed c.outline_of-outline.result in
    let e = c.from_vec.ensures ∙ c.in_ok-push_record.ensures ∙ ap (λ (x : List ℕ). x ++ own_spelling listing) c.new-out.ensures.items
    ∙ listed_own p listing c.outline_of-outline.ensures in
    subst (λ (b : List ℕ). Spells p (b ++ filling)) (sym e) (own_spells p filling c.record_sound.ensures)
