-- The lines of a scrub as JSON, by what is written one after the other.
use Rattle.std.proofs.Common.{arith, ◌≡◌, ◌∙◌, ℕ, List, [], ◌∷◌, ◌++◌, codes, decimal, refl, ap, sym, append_assoc}
use Rattle.std.proofs.lemmas.List.{append-nil}
use Rattle.json.specs.Print.{escape, escape_byte, print_from}
use Rattle.ldm_words.specs.declared.job.Format.{Format}
use Rattle.ldm_words.specs.declared.job.Format.TheVariants.{Lines, Json}
use Rattle.ldm_words.specs.Names.{esc}
use Rattle.ldm_json.specs.Values.{line_of_json}
use Rattle.ldm_scrub.specs.ScrubJson.{differing_json, failing_json}
use Rattle.ldm_scrub.specs.Lines.{end_line, end_front, counts_line}

pub differing_is : (x : ℕ) → line_of_json (differing_json x) ≡ codes "{\"sector\":" ++ (decimal x ++ codes ",\"row\":null,\"offset\":null,\"fault\":\"differs\"}\n")
unfolding print_from escape_byte
differing_is x = ap (λ (l : List ℕ). codes "{\"sector\":" ++ l) (append_assoc (decimal x) (codes ",\"row\":null,\"offset\":null,\"fault\":\"differs\"}") (codes "\n"))

pub failing_is : (row offset : ℕ) → line_of_json (failing_json row offset)
    ≡ codes "{\"sector\":null,\"row\":" ++ (decimal row ++ (codes ",\"offset\":" ++ (decimal offset ++ codes ",\"fault\":\"parity fails\"}\n")))
unfolding print_from escape_byte
failing_is row offset =
    let last = codes ",\"fault\":\"parity fails\"}" in
    ap (λ (l : List ℕ). codes "{\"sector\":null,\"row\":" ++ l)
    (append_assoc (decimal row) (codes ",\"offset\":" ++ (decimal offset ++ last)) (codes "\n")
    ∙ ap (λ (l : List ℕ). decimal row ++ (codes ",\"offset\":" ++ l)) (append_assoc (decimal offset) last (codes "\n")))

-- five texts that are put one behind the other, each behind what was there
pub five_parts : (start one two three four five a b c d e : List ℕ) → one ≡ start ++ a → two ≡ one ++ b → three ≡ two ++ c → four ≡ three ++ d → five ≡ four ++ e
    → five ≡ start ++ (a ++ (b ++ (c ++ (d ++ e))))
five_parts start one two three four five a b c d e p q r s t = rw (t, s, r, q, p) (grind (arith, append_assoc))

-- parts that are put one behind the other, in either order
joined : (e b d c f last : List ℕ) → (((((e ++ []) ++ b) ++ d) ++ c) ++ f) ++ (last ++ codes "\n") ≡ (e ++ (b ++ (d ++ (c ++ (f ++ last))))) ++ codes "\n"
joined e b d c f last = grind (arith, append_assoc, append-nil)

-- the last line is what it begins with, and the counts
pub end_is : (format : Format) (name : List ℕ) (checked bad : ℕ) → counts_line format (end_front format name) checked bad ≡ end_line format name checked bad
unfolding end_line end_front counts_line print_from escape_byte
end_is Lines name checked bad = refl
end_is (Json paths) name checked bad =
    ap (λ (l : List ℕ). codes "{\"volume\":\"" ++ l) (joined (escape (esc name) ++ 34 ∷ []) (codes ",\"checked\":") (decimal checked) (codes ",\"bad\":") (decimal bad) (codes "}"))
