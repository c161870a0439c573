-- How the sample script goes on.
use Rattle.std.proofs.Common.{◌≡◌, ℕ, ◌+◌, ◌*◌, ◌/◌, ◌^◌, List, [], ◌++◌, refl, sym, ap, ◌∙◌, add-one, arith}
use Rattle.ldm_vectors.specs.Script.{advanced, state_after, draw, sample_line, lines_of_seed}

next_state : (seed draws : ℕ) → state_after seed (draws + 1) ≡ advanced (state_after seed draws)
next_state seed draws = ap (state_after seed) (add-one draws)

one_more : (seed lines : ℕ) → lines_of_seed seed (lines + 1) ≡ lines_of_seed seed lines ++ sample_line (lines + 1) (draw seed (2 * lines + 1)) (draw seed (2 * lines + 2))
unfolding lines_of_seed
one_more seed lines = ap (lines_of_seed seed) (add-one lines)

-- two draws behind the first lines
module _ (seed lines first second : ℕ) (first_is : first ≡ advanced (state_after seed (2 * lines))) (second_is : second ≡ advanced first) where
  first_state : first ≡ state_after seed (2 * lines + 1)
  first_state = first_is ∙ sym (next_state seed (2 * lines))

  second_state : second ≡ state_after seed (2 * lines + 2)
  second_state =
      let same : 2 * lines + 1 + 1 ≡ 2 * lines + 2 = omega arith in
      second_is ∙ ap advanced first_state ∙ sym (next_state seed (2 * lines + 1)) ∙ ap (state_after seed) same

  pub drawn : second ≡ state_after seed (2 * (lines + 1))
  drawn =
      let same : 2 * lines + 2 ≡ 2 * (lines + 1) = omega arith in
      second_state ∙ ap (state_after seed) same

  pub line_more : (kind value : ℕ) (text before : List ℕ) → kind ≡ first / 2 ^ 33 → value ≡ second / 2 ^ 33 → text ≡ sample_line (lines + 1) kind value → before ≡ lines_of_seed seed lines
      → before ++ text ≡ lines_of_seed seed (lines + 1)
  line_more kind value text before kind_is value_is text_is before_is =
      let k : kind ≡ draw seed (2 * lines + 1) = kind_is ∙ ap (λ (n : ℕ). n / 2 ^ 33) first_state in
      let v : value ≡ draw seed (2 * lines + 2) = value_is ∙ ap (λ (n : ℕ). n / 2 ^ 33) second_state in
      rw (before_is, text_is, k, v) (sym (one_more seed lines))

pub no_line : (seed : ℕ) → lines_of_seed seed 0 ≡ []
unfolding lines_of_seed
no_line seed = refl
