use Rattle.std.proofs.Common.{rules, arith, ◌-◌, length, String, ◌≡◌, ◌∷◌, ◌∙◌, ℕ, List, Option, Some, None, IfOk, drop, ap, subst, sym, string_bytes}
use Rattle.std.proofs.lemmas.List.{length-drop, take_all}
use Rattle.std.specs.declared.alloc.Global.{Global}
use Rattle.ldm_words.specs.declared.job.Job.{Job}
use Rattle.ldm_words.specs.Jobs.{texts, forms, form_in, optioned, with_options}
use Rattle.ldm_words.proofs.JobLaws.{read_plain, read_option}
use Rattle.ldm_words.proofs.job.+read_with_options.Goals as goal

pub returns-in-Some-clause-is : goal.returns-in-Some-clause-is
returns-in-Some-clause-is t c =
    let read : List (List ℕ) → Option Job = form_in (forms (texts c.args.behind.now)) (string_bytes c.args.word.now) in
    read_plain (texts c.args.behind.now) read c.args.most (texts c.args.rest.now) c.in_ok-job.field-0 c.in-Some.job c.in_ok-job.ensures.is c.in-Some.is

pub returns-in-Some-2-clause-is : goal.returns-in-Some-2-clause-is
returns-in-Some-2-clause-is t c =
    let behind = texts c.args.behind.now in
    let read : List (List ℕ) → Option Job = form_in (forms behind) (string_bytes c.args.word.now) in
    let option = string_bytes c.option-item.result in
    let cut : texts c.args.rest.now ≡ option ∷ texts (drop 1 c.args.rest.now) = search rules in
    let same : optioned behind option (Some c.in-Some-2.job) ≡ with_options behind c.args.most read (texts c.args.rest.now) =
    ap (optioned behind option) (sym c.in-Some-2.is)
    ∙ read_option behind read c.args.most option (texts (drop 1 c.args.rest.now)) (texts c.args.rest.now) c.in_ok-job.field-0 c.in_ok-job-in-len1-up.field-0 (search rules) cut
    c.in_ok-job.ensures.is (search rules) (c.in_ok-job-in-len1-up.ensures.is ∙ ap (λ (l : List (String Global)). with_options behind (c.args.most - 1) read (texts l)) (take_all (length c.args.rest.now - 1) (drop 1 c.args.rest.now) (omega (arith, length-drop 1 c.args.rest.now)))) in
    subst (λ (form : Option Job). IfOk c.optioned.result (λ found. found ≡ form)) same c.optioned.ensures.is

pub returns-in-None-clause-is : goal.returns-in-None-clause-is
returns-in-None-clause-is t c =
    let read : List (List ℕ) → Option Job = form_in (forms (texts c.args.behind.now)) (string_bytes c.args.word.now) in
    let option = string_bytes c.option-item.result in
    let cut : texts c.args.rest.now ≡ option ∷ texts (drop 1 c.args.rest.now) = search rules in
    ap (optioned (texts c.args.behind.now) option) (sym c.in-None.is)
    ∙ read_option (texts c.args.behind.now) read c.args.most option (texts (drop 1 c.args.rest.now)) (texts c.args.rest.now) c.in_ok-job.field-0 c.in_ok-job-in-len1-up.field-0 (search rules) cut
    c.in_ok-job.ensures.is (search rules) (c.in_ok-job-in-len1-up.ensures.is ∙ ap (λ (l : List (String Global)). with_options (texts c.args.behind.now) (c.args.most - 1) read (texts l)) (take_all (length c.args.rest.now - 1) (drop 1 c.args.rest.now) (omega (arith, length-drop 1 c.args.rest.now))))
