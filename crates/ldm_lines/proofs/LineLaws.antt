-- The first line of a script.
use Rattle.std.proofs.Common.{◌≡◌, ℕ, ◌+◌, ◌<◌, ◌≤◌, Bool, true, false, cond, List, [], ◌∷◌, length, take, drop, refl, sym, ◌∙◌, ap, arith, length-drop, Some, None}
use Rattle.std.specs.Prelude.{nat_lt, not}
use Rattle.std.specs.List.{slice_split, onto_first, position_or_len}
use Rattle.std.proofs.lemmas.Bool.Decides.{nat_tests}
use Rattle.std.proofs.lemmas.List.Splits.{slice_split_first, length-slice_split}
use Rattle.ldm_lines.specs.Lines.{is_newline, without_last_empty, lines_of, IsFrontLine}

pub no_lines : (script : List ℕ) → length script ≡ 0 → lines_of script ≡ []
unfolding lines_of
no_lines [] is = refl
no_lines (c ∷ cs) is = absurd (omega (arith, is))

-- a part in front of others stays
in_front : (part : List ℕ) (parts : List (List ℕ)) → 0 < length parts → without_last_empty (part ∷ parts) ≡ part ∷ without_last_empty parts
in_front part [] some = absurd (omega arith)
in_front part (next ∷ parts) some = refl

pub front_at : (script : List ℕ) (place : ℕ) → place ≡ position_or_len is_newline script → place < length script → IsFrontLine script (take place script) (drop (place + 1) script)
unfolding lines_of
front_at script place is lt =
    let rest = drop (place + 1) script in
    let split : slice_split is_newline script ≡ take place script ∷ slice_split is_newline rest =
    rw is (slice_split_first is_newline script 0 (rw (sym is) lt)) in
    record {
      lines_are = ap without_last_empty split ∙ in_front (take place script) (slice_split is_newline rest) (omega (arith, length-slice_split is_newline rest));
      shorter = omega (arith, length-drop (place + 1) script);
    }

more_split : (t : Bool) (c : ℕ) (cs : List ℕ) (parts : List (List ℕ)) → length (c ∷ cs) ≤ cond (not t) (1 + position_or_len is_newline cs) 0
    → (length cs ≤ position_or_len is_newline cs → parts ≡ cs ∷ []) → cond t ([] ∷ parts) (onto_first c parts) ≡ (c ∷ cs) ∷ []
more_split true c cs parts le rest = absurd (omega arith)
more_split false c cs parts le rest = ap (onto_first c) (rest (omega arith))

no_split : (cs : List ℕ) → length cs ≤ position_or_len is_newline cs → slice_split is_newline cs ≡ cs ∷ []
no_split [] none = refl
no_split (c ∷ cs) none = more_split (is_newline c) c cs (slice_split is_newline cs) none (no_split cs)

some_left : (cs : List ℕ) → 0 < length cs → without_last_empty (cs ∷ []) ≡ cs ∷ []
some_left cs some = grind (arith, nat_tests)

pub whole_line : (script : List ℕ) → 0 < length script → length script ≤ position_or_len is_newline script → IsFrontLine script script []
unfolding lines_of
whole_line script some none = record { lines_are = ap without_last_empty (no_split script none) ∙ some_left script some; shorter = some }

-- ---- what a search for a place answers

pub found_at : (n len place : ℕ) → Some place ≡ cond (nat_lt n len) (Some n) None → (place ≡ n) × (place < len)
found_at n len place is = go (nat_lt n len) refl is
  where
    go : (t : Bool) → nat_lt n len ≡ t → Some place ≡ cond t (Some n) None → (place ≡ n) × (place < len)
    go true lt e = let same : place ≡ n = cc in let below : n < len = grind (arith, nat_tests, lt) in (same, omega arith)
    go false lt e = absurd cc

pub found_none : (n len : ℕ) → None ≡ cond (nat_lt n len) (Some n) None → len ≤ n
found_none n len is = go (nat_lt n len) refl is
  where
    go : (t : Bool) → nat_lt n len ≡ t → None ≡ cond t (Some n) None → len ≤ n
    go true lt e = absurd cc
    go false ge e = grind (arith, nat_tests, ge)
