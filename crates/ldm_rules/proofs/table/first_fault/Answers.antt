use Rattle.std.proofs.Common.{◌≡◌, ℕ, Option, None, Err, [], ◌∷◌, rules, sym, ap, subst, ◌∙◌}
use Rattle.ldm_bytes.specs.Tables.{first_of}
use Rattle.ldm_rules.specs.Rules.{first_broken, has_layout_fault, passes_layout}
use Rattle.ldm_rules.specs.Table.{broken_at, ChecksAs}
use Rattle.ldm_rules.specs.declared.fault.RuleError.{RuleError}
use Rattle.ldm_rules.proofs.table.first_fault.Goals as goal

-- the two rows, by the ids that they find
abbrev rows : Option ℕ → Option ℕ → Option (ℕ × ℕ)
rows faulty large = first_of (broken_at 12 faulty ∷ broken_at 13 large ∷ [])

pub returns-in-Some : goal.returns-in-Some
returns-in-Some c = λ records is.
    let large = first_broken (passes_layout records) records in
    subst (λ (e : RuleError). ChecksAs (Err e) (rows (first_broken (has_layout_fault records) records) large)) (sym c.broken.ensures)
    (ap (λ (o : Option ℕ). rows o large) (sym (c.faulty.ensures records is) ∙ c.in-Some.is))

pub returns-in-Some-too_large : goal.returns-in-Some-too_large
returns-in-Some-too_large c = λ records is.
    let none : c.faulty.result ≡ None = search rules in
    subst (λ (e : RuleError). ChecksAs (Err e) (rows (first_broken (has_layout_fault records) records) (first_broken (passes_layout records) records))) (sym c.broken-in-Some-too_large.ensures)
    (λ i. rows ((sym (c.faulty.ensures records is) ∙ none) i) ((sym (c.too_large.ensures records is) ∙ c.in-Some-too_large.is) i))

pub returns : goal.returns
returns c = λ records is.
    let none : c.faulty.result ≡ None = search rules in
    let fits : c.too_large.result ≡ None = search rules in
    λ i. rows ((sym (c.faulty.ensures records is) ∙ none) i) ((sym (c.too_large.ensures records is) ∙ fits) i)
