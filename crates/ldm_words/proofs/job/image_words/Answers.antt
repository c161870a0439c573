use Rattle.std.proofs.Common.{ℕ, ◌+◌, ◌-◌, ◌∙◌, length, drop, sym, ap, arith, string_bytes}
use Rattle.std.proofs.lemmas.List.{drop-map, length-drop, take_all}
use Rattle.ldm_words.specs.Jobs.{texts}
use Rattle.ldm_words.proofs.job.image_words.Goals as goal

pub returns-then-place-words : goal.returns-then-place-words
returns-then-place-words c =
    let words = c.args.words.now in
    let at = c.on_place-place.result + 1 in
    ap texts (take_all (length words - at) (drop at words) (omega (arith, length-drop at words)))
    ∙ (sym (drop-map string_bytes at words)
    ∙ ap (λ (n : ℕ). drop (n + 1) (texts words)) c.on_place-place.ensures.is)
