-- Tokens that are read one by one.
use Rattle.std.proofs.Common.{◌≡◌, ◌∙◌, ℕ, ◌+◌, ◌<◌, ◌≤◌, List, [], ◌∷◌, ◌++◌, length, get_or, drop, Option, Some, None, refl, sym, ap, append_assoc, drop_of_length-le, arith, tests}
use Rattle.std.specs.Borrow.{Bor}
use Rattle.std.proofs.lemmas.List.{drop_more, append-nil, length-map}
use Rattle.ldm_words.specs.Commands.{token_bytes, both, each, many}

-- the front, and then what is read
abbrev pub behind : {A : Type 0} → List A → Option (List A) → Option (List A)
behind front None = None
behind front (Some rest) = Some (front ++ rest)

module _ {A : Type 0} (read : List ℕ → Option A) (tokens : List (Bor (List ℕ))) (at : ℕ) (front : List A) where
  one_more : (item : A) (rest : Option (List A)) → behind (front ++ item ∷ []) rest ≡ behind front (both (λ i items. i ∷ items) (Some item) rest)
  one_more item None = refl
  one_more item (Some rest) = ap (λ (l : List A). Some l) (append_assoc front (item ∷ []) rest)

  -- the tokens from here on are read where the first of them is, and the others
  first_of : (d : Bor (List ℕ)) → at < length tokens → each read (token_bytes (drop at tokens)) ≡ both (λ i items. i ∷ items) (read (get_or tokens at d).now) (each read (token_bytes (drop (at + 1) tokens)))
  first_of d lt = ap (λ (l : List (Bor (List ℕ))). each read (token_bytes l)) (drop_more tokens at d lt)

  pub next_read : (d : Bor (List ℕ)) (item : A) → at < length tokens → Some item ≡ read (get_or tokens at d).now
      → behind (front ++ item ∷ []) (each read (token_bytes (drop (at + 1) tokens))) ≡ behind front (each read (token_bytes (drop at tokens)))
  next_read d item lt is =
      one_more item (each read (token_bytes (drop (at + 1) tokens)))
      ∙ ap (λ (o : Option A). behind front (both (λ i items. i ∷ items) o (each read (token_bytes (drop (at + 1) tokens))))) is
      ∙ sym (ap (behind front) (first_of d lt))

  pub not_read : (d : Bor (List ℕ)) → at < length tokens → None ≡ read (get_or tokens at d).now → None ≡ behind front (each read (token_bytes (drop at tokens)))
  not_read d lt is =
      ap (λ (o : Option A). behind front (both (λ i items. i ∷ items) o (each read (token_bytes (drop (at + 1) tokens))))) is
      ∙ sym (ap (behind front) (first_of d lt))

  pub all_read : length tokens ≤ at → behind front (each read (token_bytes (drop at tokens))) ≡ Some front
  all_read le =
      ap (λ (l : List (Bor (List ℕ))). behind front (each read (token_bytes l))) (drop_of_length-le tokens le) ∙ ap (λ (l : List A). Some l) (append-nil front)

pub many_read : {A : Type 0} (least : ℕ) (read : List ℕ → Option A) (tokens : List (Bor (List ℕ))) → least ≤ length tokens → length tokens ≤ 64
    → many least read (token_bytes tokens) ≡ each read (token_bytes tokens)
many_read least read tokens some few =
    let len : length (token_bytes tokens) ≡ length tokens = length-map tokens (λ token. token.now) in
    grind (arith, tests, len)
