-- Stretches of sectors that lie side by side, and the lines and texts that are made of them.
use Rattle.std.proofs.Common.{◌≡◌, ◌∙◌, ℕ, zero, suc, ◌+◌, ◌-◌, ◌<◌, Bool, true, false, List, [], ◌∷◌, refl, ap, sym, arith, add_assoc, Option, Some, filter_map, ◌≤◌, inl, inr, map, subst, ◌++◌, flat_map, append_assoc}
use Rattle.std.proofs.lemmas.Grind.{common_steps}
use Rattle.std.specs.List.{range_with_len, cons_option}
use Rattle.std.proofs.lemmas.Bool.{and_parts, and_from, cond-true, cond-false, eqb-true, eq-eqb, and_right, cases_lt, le-leb, lt-ltb, le-ltb, cases_Bool}
use Rattle.ldm_places.specs.Layouts.{Layout}
use Rattle.ldm_copy.specs.declared.found.Found.{Found}
use Rattle.ldm_table.specs.declared.stretch.Stretch.{Stretch}
use Rattle.ldm_table.specs.Tables.{sector_at, is_next_to, before, joined, stretches_of, table_line}
use Rattle.ldm_table.specs.Runs.{IsStretchOf}
use Rattle.std.specs.Prelude.{nat_le, nat_lt}
use Rattle.ldm_dump.specs.declared.spots.Spot.{Spot}
use Rattle.ldm_table.specs.Targets.{Line, linear, spots_of, has_sector, spots_in}
use Rattle.ldm_table.specs.Laws.{Tile}
use Rattle.std.proofs.lemmas.List.{append-nil}
use Rattle.ldm_table.specs.Spelling.{text_of_line}
use Rattle.std.proofs.lemmas.List.FromFn.{map-range_with_len_more}

-- ---- Stretches that are put in front of others, one after the other.

-- the first with the sectors of the second too
abbrev pub with_next : Stretch → Stretch → Stretch
with_next a b = record a { sectors = a.sectors + b.sectors }

pub record IsNext (a b : Stretch) : Type 0 where
  pub image : a.spot.image ≡ b.spot.image
  pub sector : a.spot.sector + a.sectors ≡ b.spot.sector

pub next_is : (a b : Stretch) → is_next_to a b ≡ true → IsNext a b
next_is a b is = grind (arith, and_parts, eqb-true)

pub is_next : (a b : Stretch) → IsNext a b → is_next_to a b ≡ true
is_next a b is = grind (arith, and_from, eq-eqb)

-- what is behind the second is behind both
behind_both : (a b c : Stretch) → IsNext a b → is_next_to b c ≡ is_next_to (with_next a b) c
behind_both a b c next = grind (arith, add_assoc)

pub before_next : (a b : Stretch) (rest : List Stretch) → is_next_to a b ≡ true → before a (before b rest) ≡ before (with_next a b) rest
before_next a b rest is = grind (arith, common_steps, cond-true, behind_both, next_is, cases_Bool, add_assoc)

pub before_apart : (a b : Stretch) (rest : List Stretch) → is_next_to a b ≡ false → before a (before b rest) ≡ a ∷ before b rest
before_apart a b rest is = grind (arith, common_steps, cond-false, cases_Bool)

-- ---- sectors side by side are one stretch

abbrev pub piece : ℕ → ℕ → ℕ → ℕ → Stretch
piece x n image sector = record { start = x; sectors = n; spot = record { image = image; sector = sector } }

abbrev pub some_piece : ℕ → ℕ → ℕ → ℕ → Option Stretch
some_piece x n image sector = Some (piece x n image sector)

module _ (f : ℕ → Option Stretch) (image : ℕ) where
  -- the first of them
  first_at : (x sector : ℕ) → f (x + 0) ≡ some_piece (x + 0) 1 image (sector + 0) → f x ≡ some_piece x 1 image sector
  first_at x sector is =
      let none : x ≡ x + 0 = omega arith in
      let same : sector + 0 ≡ sector = omega arith in
      ap f none ∙ (is ∙ (ap (λ (s : ℕ). some_piece (x + 0) 1 image s) same ∙ ap (λ (y : ℕ). some_piece y 1 image sector) (sym none)))

  first_joined : (x sector n : ℕ) → f x ≡ some_piece x 1 image sector → joined (filter_map f (range_with_len x (suc n))) ≡ before (piece x 1 image sector) (joined (filter_map f (range_with_len (x + 1) n)))
  first_joined x sector n is = ap (λ (o : Option Stretch). joined (cons_option o (filter_map f (range_with_len (x + 1) n)))) is

  later_at : (x sector i : ℕ) → f (x + suc i) ≡ some_piece (x + suc i) 1 image (sector + suc i) → f (x + 1 + i) ≡ some_piece (x + 1 + i) 1 image (sector + 1 + i)
  later_at x sector i is =
      let place : x + 1 + i ≡ x + suc i = omega arith in
      let sect : sector + suc i ≡ sector + 1 + i = omega arith in
      ap f place ∙ (is ∙ (ap (λ (s : ℕ). some_piece (x + suc i) 1 image s) sect ∙ ap (λ (y : ℕ). some_piece y 1 image (sector + 1 + i)) (sym place)))

  run_joined : (n x m sector : ℕ) → ((i : ℕ) → i < suc n → f (x + i) ≡ some_piece (x + i) 1 image (sector + i))
      → joined (filter_map f (range_with_len x (suc n + m))) ≡ before (piece x (suc n) image sector) (joined (filter_map f (range_with_len (x + suc n) m)))
  run_joined zero x m sector each =
      let count : 1 + m ≡ suc m = omega arith in
      ap (λ (k : ℕ). joined (filter_map f (range_with_len x k))) count ∙ first_joined x sector m (first_at x sector (each 0 (omega arith)))
  run_joined (suc n) x m sector each =
      let count : suc (suc n) + m ≡ suc (suc n + m) = omega arith in
      let past : x + 1 + suc n ≡ x + suc (suc n) = omega arith in
      let long : 1 + suc n ≡ suc (suc n) = omega arith in
      let rest : List Stretch = joined (filter_map f (range_with_len (x + 1 + suc n) m)) in
      ap (λ (k : ℕ). joined (filter_map f (range_with_len x k))) count
      ∙ (first_joined x sector (suc n + m) (first_at x sector (each 0 (omega arith)))
      ∙ (ap (before (piece x 1 image sector)) (run_joined n (x + 1) m (sector + 1) (λ i lt. later_at x sector i (each (suc i) (omega (arith, lt)))))
      ∙ (before_next (piece x 1 image sector) (piece (x + 1) (suc n) image (sector + 1)) rest (is_next (piece x 1 image sector) (piece (x + 1) (suc n) image (sector + 1)) (record { image = refl; sector = refl }))
      ∙ (ap (λ (j : ℕ). before (piece x j image sector) rest) long
      ∙ ap (λ (y : ℕ). before (piece x (suc (suc n)) image sector) (joined (filter_map f (range_with_len y m)))) past))))

-- the sectors from this one on: its stretch in front of the others
pub stretch_first : (found : Found) (l : Layout) (x : ℕ) (s : Stretch) → IsStretchOf found l x s → stretches_of found l x (l.size - x) ≡ before s (stretches_of found l (x + s.sectors) (l.size - (x + s.sectors)))
unfolding stretches_of
stretch_first found l x s is =
    let n = s.sectors - 1 in
    let some = is.some in
    let within = is.within in
    let long : suc n ≡ s.sectors = omega arith in
    let m = l.size - (x + s.sectors) in
    let count : l.size - x ≡ suc n + m = omega arith in
    let f = sector_at found l in
    let image = s.spot.image in
    let sector = s.spot.sector in
    ap (λ (k : ℕ). joined (filter_map f (range_with_len x k))) count
    ∙ (run_joined f image n x m sector (λ i lt. is.sectors i (omega (arith, lt, long)))
    ∙ (ap (λ (k : ℕ). before (piece x k image sector) (joined (filter_map f (range_with_len (x + k) m)))) long
    ∙ ap (λ (y : ℕ). before (piece y s.sectors image sector) (joined (filter_map f (range_with_len (x + s.sectors) m)))) (sym is.start)))

pub no_stretches : (found : Found) (l : Layout) (x n : ℕ) → n ≡ 0 → stretches_of found l x n ≡ []
unfolding stretches_of
no_stretches found l x n is = ap (λ (k : ℕ). joined (filter_map (sector_at found l) (range_with_len x k))) is

-- ---- The lines of stretches tile, and each sector is that of its own.

-- ---- one line

pub has_it : (x : ℕ) (line : Line) → line.start ≤ x → x < line.start + line.sectors → has_sector x line ≡ true
has_it x line low high = and_from (nat_le line.start x) (nat_lt x (line.start + line.sectors)) (le-leb line.start x low) (lt-ltb x (line.start + line.sectors) high)

pub is_past : (x : ℕ) (line : Line) → line.start + line.sectors ≤ x → has_sector x line ≡ false
is_past x line past = and_right (nat_le line.start x) (nat_lt x (line.start + line.sectors)) (le-ltb x (line.start + line.sectors) past)

pub in_first : (x : ℕ) (line : Line) (lines : List Line) → line.start ≤ x → x < line.start + line.sectors → spots_in (line ∷ lines) x ≡ spots_of line.target (x - line.start)
in_first x line lines low high = cond-true (has_sector x line) (spots_of line.target (x - line.start)) (spots_in lines x) (has_it x line low high)

pub in_others : (x : ℕ) (line : Line) (lines : List Line) → line.start + line.sectors ≤ x → spots_in (line ∷ lines) x ≡ spots_in lines x
in_others x line lines past = cond-false (has_sector x line) (spots_of line.target (x - line.start)) (spots_in lines x) (is_past x line past)

abbrev pub some_spot : ℕ → ℕ → Option (List Spot)
some_spot image sector = Some (record { image = image; sector = sector } ∷ [])

pub of_linear : (s : Spot) (i : ℕ) → spots_of (linear s) i ≡ some_spot s.image (s.sector + i)
unfolding spots_of
of_linear s i = refl

-- a sector of a stretch
in_stretch : (x : ℕ) (s : Stretch) (lines : List Line) → s.start ≤ x → x < s.start + s.sectors → spots_in (table_line s ∷ lines) x ≡ some_spot s.spot.image (s.spot.sector + (x - s.start))
in_stretch x s lines low high = in_first x (table_line s) lines low high ∙ of_linear s.spot (x - s.start)

-- ---- the lines of sectors, each of which is on one image

-- the lines are those of n sectors from the first on
pub record AreLinesOf (g : ℕ → Spot) (first n : ℕ) (lines : List Line) : Type 0 where
  pub tile : Tile first (first + n) lines
  pub sectors : (x : ℕ) → first ≤ x → x < first + n → spots_in lines x ≡ some_spot (g x).image (g x).sector

module _ (g : ℕ → Spot) where
  abbrev single : ℕ → Stretch
  single x = record { start = x; sectors = 1; spot = g x }

  single_first : (x : ℕ) (s : Stretch) (lines : List Line) → s.start ≡ x → 0 < s.sectors → s.spot.image ≡ (g x).image → s.spot.sector ≡ (g x).sector → spots_in (table_line s ∷ lines) x ≡ some_spot (g x).image (g x).sector
  single_first x s lines start some image sector =
      let at : s.spot.sector + (x - s.start) ≡ (g x).sector = omega (arith, start, sector) in
      in_stretch x s lines (omega (arith, start)) (omega (arith, start, some)) ∙ (ap (λ (i : ℕ). some_spot i (s.spot.sector + (x - s.start))) image ∙ ap (λ (n : ℕ). some_spot (g x).image n) at)

  -- one sector in front
  lines_more : (first n : ℕ) (rest : List Stretch) → AreLinesOf g (first + 1) n (map table_line rest) → AreLinesOf g first (suc n) (map table_line (before (single first) rest))
  lines_more first n [] are =
      let end : first + 1 ≡ first + 1 + n = are.tile in
      let last : first + 1 ≡ first + suc n = omega (arith, end) in
      record {
        tile = (refl, omega arith, last);
        sectors = λ x low high. (let at : x ≡ first = omega (arith, end, low, high) in subst (λ (y : ℕ). spots_in (table_line (single first) ∷ []) y ≡ some_spot (g y).image (g y).sector) (sym at) (single_first first (single first) [] refl (omega arith) refl refl));
      }
  lines_more first n (b ∷ bs) are = go (is_next_to (single first) b) refl
    where
      end : first + 1 + n ≡ first + suc n
      end = omega arith

      start : b.start ≡ first + 1
      start = are.tile.0

      -- the sectors behind the first
      later : (a : Stretch) → a.start ≡ first → a.sectors ≡ 1 + b.sectors → a.spot.image ≡ b.spot.image → a.spot.sector + 1 ≡ b.spot.sector
          → (x : ℕ) → first < x → x < first + suc n → spots_in (table_line a ∷ map table_line bs) x ≡ some_spot (g x).image (g x).sector
      later a at many image sector x low high = elim (cases_lt x (b.start + b.sectors)) [
        | inl less ↦ (let same : a.spot.sector + (x - a.start) ≡ b.spot.sector + (x - b.start) = omega (arith, start, at, sector, low) in
            in_stretch x a (map table_line bs) (omega (arith, at, low)) (omega (arith, at, many, start, less))
            ∙ (ap (λ (i : ℕ). some_spot i (a.spot.sector + (x - a.start))) image ∙ (ap (λ (k : ℕ). some_spot b.spot.image k) same
            ∙ (sym (in_stretch x b (map table_line bs) (omega (arith, start, low)) less) ∙ are.sectors x (omega (arith, low)) (omega (arith, high))))))
        | inr past ↦ in_others x (table_line a) (map table_line bs) (omega (arith, at, many, start, past))
            ∙ (sym (in_others x (table_line b) (map table_line bs) past) ∙ are.sectors x (omega (arith, low)) (omega (arith, high)))
      ]

      go : (t : Bool) → is_next_to (single first) b ≡ t → AreLinesOf g first (suc n) (map table_line (before (single first) (b ∷ bs)))
      go true is =
          let next = next_is (single first) b is in
          let a : Stretch = with_next (single first) b in
          let past : first + 1 + b.sectors ≡ first + (1 + b.sectors) = omega arith in
          subst (λ (l : List Stretch). AreLinesOf g first (suc n) (map table_line l)) (sym (cond-true (is_next_to (single first) b) (a ∷ bs) (single first ∷ b ∷ bs) is))
          (record {
            tile = (
              refl,
              omega arith,
              subst (λ (k : ℕ). Tile k (first + suc n) (map table_line bs)) past (subst (λ (k : ℕ). Tile (first + 1 + b.sectors) k (map table_line bs)) end are.tile.2),
            );
            sectors = λ x low high. elim (cases_lt first x) [
              | inl less ↦ later a refl refl next.image next.sector x less high
              | inr le ↦ (let at : x ≡ first = omega (arith, low, le) in subst (λ (y : ℕ). spots_in (table_line a ∷ map table_line bs) y ≡ some_spot (g y).image (g y).sector) (sym at) (single_first first a (map table_line bs) refl (omega arith) refl refl))
            ];
          })
      go false is =
          subst (λ (l : List Stretch). AreLinesOf g first (suc n) (map table_line l)) (sym (cond-false (is_next_to (single first) b) (with_next (single first) b ∷ bs) (single first ∷ b ∷ bs) is))
          (record {
            tile = (refl, omega arith, subst (λ (k : ℕ). Tile (first + 1) k (map table_line (b ∷ bs))) end are.tile);
            sectors = λ x low high. elim (cases_lt first x) [
              | inl less ↦ in_others x (table_line (single first)) (map table_line (b ∷ bs)) (omega (arith, less)) ∙ are.sectors x (omega (arith, less)) (omega (arith, high))
              | inr le ↦ (let at : x ≡ first = omega (arith, low, le) in subst (λ (y : ℕ). spots_in (table_line (single first) ∷ map table_line (b ∷ bs)) y ≡ some_spot (g y).image (g y).sector) (sym at) (single_first first (single first) (map table_line (b ∷ bs)) refl (omega arith) refl refl))
            ];
          })

  pub lines_joined : (f : ℕ → Option Stretch) (n first : ℕ) → ((x : ℕ) → first ≤ x → x < first + n → f x ≡ Some (single x)) → AreLinesOf g first n (map table_line (joined (filter_map f (range_with_len first n))))
  lines_joined f zero first each = record { tile = omega arith; sectors = λ x low high. absurd (omega (arith, low, high)) }
  lines_joined f (suc n) first each =
      subst (λ (o : Option Stretch). AreLinesOf g first (suc n) (map table_line (joined (cons_option o (filter_map f (range_with_len (first + 1) n)))))) (sym (each first (omega arith) (omega arith)))
      (lines_more first n (joined (filter_map f (range_with_len (first + 1) n))) (lines_joined f n (first + 1) (λ x low high. each x (omega (arith, low)) (omega (arith, high)))))

-- ---- The text of lines, stretch by stretch.

-- a list with what is made of the next number
pub more_made : {X : Type 0} (f : ℕ → X) (n : ℕ) (so more : List X) (x : X) → so ≡ map f (range_with_len 0 n) → x ≡ f n → more ≡ so ++ x ∷ [] → more ≡ map f (range_with_len 0 (n + 1))
more_made {X} f n so more x is at said = grind (arith, map-range_with_len_more)

pub three_parts : (t a b c m n o : List ℕ) → m ≡ t ++ a → n ≡ m ++ b → o ≡ n ++ c → o ≡ t ++ ((a ++ b) ++ c)
three_parts t a b c m n o x y z = grind (arith, append_assoc)

abbrev pub lines_text : List (List ℕ) → List Stretch → List ℕ
lines_text words stretches = flat_map (text_of_line words) (map table_line stretches)

module _ (words : List (List ℕ)) (found : Found) (l : Layout) where
  abbrev pub rest : ℕ → List Stretch
  rest x = stretches_of found l x (l.size - x)

  -- a stretch more lies right behind the last one
  pub text_joined : (text all : List ℕ) (x : ℕ) (last next : Stretch) → IsStretchOf found l x next → is_next_to last next ≡ true → text ++ lines_text words (before last (rest x)) ≡ all
      → text ++ lines_text words (before (with_next last next) (rest (x + next.sectors))) ≡ all
  text_joined text all x last next is behind so =
      ap (λ (s : List Stretch). text ++ lines_text words s) (sym (before_next last next (rest (x + next.sectors)) behind) ∙ ap (before last) (sym (stretch_first found l x next is))) ∙ so

  -- or apart from it, which is said then
  pub text_apart : (text more all : List ℕ) (x : ℕ) (last next : Stretch) → IsStretchOf found l x next → is_next_to last next ≡ false → text ++ lines_text words (before last (rest x)) ≡ all
      → more ≡ text ++ text_of_line words (table_line last) → more ++ lines_text words (before next (rest (x + next.sectors))) ≡ all
  text_apart text more all x last next is apart so said =
      let after : List ℕ = lines_text words (before next (rest (x + next.sectors))) in
      ap (λ (t : List ℕ). t ++ after) said
      ∙ (append_assoc text (text_of_line words (table_line last)) after
      ∙ (ap (λ (s : List Stretch). text ++ lines_text words s) (sym (before_apart last next (rest (x + next.sectors)) apart) ∙ ap (before last) (sym (stretch_first found l x next is)))
      ∙ so))

  pub text_begun : (text : List ℕ) (x : ℕ) (first : Stretch) → IsStretchOf found l x first → text ++ lines_text words (before first (rest (x + first.sectors))) ≡ text ++ lines_text words (rest x)
  text_begun text x first is = ap (λ (s : List Stretch). text ++ lines_text words s) (sym (stretch_first found l x first is))

  -- all is said with the last one
  pub text_ended : (text all : List ℕ) (x : ℕ) (last : Stretch) → rest x ≡ [] → text ++ lines_text words (before last (rest x)) ≡ all → text ++ text_of_line words (table_line last) ≡ all
  text_ended text all x last none so =
      ap (λ (t : List ℕ). text ++ t) (sym (append-nil (text_of_line words (table_line last))))
      ∙ (ap (λ (s : List Stretch). text ++ lines_text words (before last s)) (sym none) ∙ so)
