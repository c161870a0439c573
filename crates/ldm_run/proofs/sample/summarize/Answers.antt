use Rattle.std.proofs.Common.{◌≡◌, ℕ, ◌-◌, List, Result, Ok, Err, IfOk, ap, ◌∙◌, arith}
use Rattle.ldm_vmdb.specs.declared.header.Header.{Header}
use Rattle.ldm_group.specs.Room.{need_of}
use Rattle.ldm_words.specs.declared.status.Status.TheVariants.{Done}
use Rattle.ldm_run.specs.Sample.{text_of_summary, IsSampleAnswer}
use Rattle.ldm_run.proofs.LineLaws.{line_count}
use Rattle.ldm_run.proofs.SampleLaws.{some_disk, holds_now, sequence_is, lines_are_enough, summarized}
use Rattle.ldm_run.proofs.sample.summarize.Goals as goal

pub find_group-requires : goal.find_group-requires
find_group-requires c = some_disk c.requires

pub overflow_sub-done : goal.overflow_sub-done
overflow_sub-done c =
    let up = sequence_is c.requires (c.in-Ok.ensures.found tt) (holds_now c.args.host) c.sequence_counts_lines.ensures in
    let seq = ap (λ (h : Header). h.seq) c.header.ensures in
    omega (arith, up, seq)

pub overflow_sub-replies : goal.overflow_sub-replies
overflow_sub-replies c =
    let enough = lines_are_enough c.requires (c.in-Ok.ensures.found tt) (holds_now c.args.host) c.sequence_counts_lines.ensures in
    let seq = ap (λ (h : Header). h.seq) c.header.ensures in
    let count = c.count_lines-replies.ensures ∙ ap line_count c.said.ensures in
    omega (arith, enough, seq, count)

-- what holds of a text holds where there is one
any_ok : {E : Type 0} (made : Result (List ℕ) E) (P Q : List ℕ → Type 0) → ((text : List ℕ) → P text → Q text) → IfOk made P → IfOk made Q
any_ok (Ok text) P Q turn p = turn text p
any_ok (Err error) P Q turn p = tt

pub returns : goal.returns
returns c =
    let seed = c.args.seed in
    let db = c.in-Ok.found.db in
    let seq = c.header.result.now.seq in
    let done = seq - 7 in
    let refused = c.count_lines-replies.result - done in
    let seq_is = ap (λ (h : Header). h.seq) c.header.ensures in
    let count = c.count_lines-replies.ensures ∙ ap line_count c.said.ensures in
    any_ok c.summary_text.result (λ text. text ≡ text_of_summary seed done refused seq c.need.result c.room.result) (λ text. IsSampleAnswer seed (text, Done)) (λ text is.
    summarized c.requires (c.in-Ok.ensures.found tt) (holds_now c.args.host) c.sequence_counts_lines.ensures text done refused (ap (λ (n : ℕ). n - 7) seq_is) (ap (λ (n : ℕ). n - done) count)
    (is
    ∙ ap (λ (n : ℕ). text_of_summary seed done refused n c.need.result c.room.result) seq_is
    ∙ ap (λ (n : ℕ). text_of_summary seed done refused db.header.seq n c.room.result) c.need.ensures
    ∙ ap (λ (n : ℕ). text_of_summary seed done refused db.header.seq (need_of db.records) n) c.room.ensures)) c.summary_text.ensures
