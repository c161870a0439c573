-- How ranges of lost sectors follow one another.
use Rattle.std.proofs.Common.{◌≡◌, inl, inr, ℕ, ◌+◌, ◌<◌, ◌≤◌, Bool, true, false, List, [], ◌∷◌, ◌++◌, refl, sym, ◌∙◌, ap, subst, arith, Option, Some, None, if◌then◌else◌}
use Rattle.std.specs.Option.{option_to_list}
use Rattle.std.proofs.lemmas.List.{append-nil}
use Rattle.std.proofs.lemmas.List.Sums.{sum_by-append}
use Rattle.ldm_rescue.specs.declared.reading.Cause.{Cause}
use Rattle.ldm_rescue.specs.declared.losses.Loss.{Loss}
use Rattle.ldm_rescue.specs.Losses.{is_in_loss, cause_at, lost_in, GoesOn, IsEnded, AreRanges, longer, Comes, lost_among}

-- ---- one range

pub behind : (loss : Loss) (x : ℕ) → loss.first + loss.count ≤ x → is_in_loss loss x ≡ false
behind loss x le = grind arith

pub before : (loss : Loss) (x : ℕ) → x < loss.first → is_in_loss loss x ≡ false
before loss x lt = grind arith

pub inside : (loss : Loss) (x : ℕ) → loss.first ≤ x → x < loss.first + loss.count → is_in_loss loss x ≡ true
inside loss x low high = grind arith

-- a sector that isn't in the first range
pub cause_past : (loss : Loss) (more : List Loss) (x : ℕ) → is_in_loss loss x ≡ false → cause_at (loss ∷ more) x ≡ cause_at more x
cause_past loss more x out = ap (λ (b : Bool). if b then Some loss.cause else cause_at more x) out

pub cause_in : (loss : Loss) (more : List Loss) (x : ℕ) → is_in_loss loss x ≡ true → cause_at (loss ∷ more) x ≡ Some loss.cause
cause_in loss more x here = ap (λ (b : Bool). if b then Some loss.cause else cause_at more x) here

-- what is equal of the ranges behind the first is equal of all
cause_cons : (loss : Loss) (a b : List Loss) (x : ℕ) → cause_at a x ≡ cause_at b x → cause_at (loss ∷ a) x ≡ cause_at (loss ∷ b) x
cause_cons loss a b x same = ap (λ (o : Option Cause). if is_in_loss loss x then Some loss.cause else o) same

-- ---- all ranges

pub ranges_low : (at end : ℕ) (rs : List Loss) → AreRanges at end rs → at ≤ end
ranges_low at end [] are = are
ranges_low at end (loss ∷ more) are = (let r = ranges_low (loss.first + loss.count) end more are.3 in omega (arith, are.0, r))

pub ranges_later : (at end later : ℕ) (rs : List Loss) → AreRanges at end rs → end ≤ later → AreRanges at later rs
ranges_later at end later [] are le = omega (arith, are, le)
ranges_later at end later (loss ∷ more) are le = (are.0, are.1, are.2, ranges_later (loss.first + loss.count) end later more are.3 le)

pub none_behind : (at end x : ℕ) (rs : List Loss) → AreRanges at end rs → end ≤ x → cause_at rs x ≡ None
none_behind at end x [] are le = refl
none_behind at end x (loss ∷ more) are le =
    let low = ranges_low (loss.first + loss.count) end more are.3 in
    cause_past loss more x (behind loss x (omega (arith, low, le))) ∙ none_behind (loss.first + loss.count) end x more are.3 le

-- ---- a range more

-- what stands behind the next range doesn't matter
whole_more : (loss last : Loss) (rest more : List Loss) → IsEnded loss (rest ++ last ∷ []) → IsEnded loss ((rest ++ last ∷ []) ++ more)
whole_more loss last [] more whole = whole
whole_more loss last (next ∷ rest) more whole = whole

whole_longer : (loss last : Loss) (n : ℕ) (rest : List Loss) → IsEnded loss (rest ++ last ∷ []) → IsEnded loss (rest ++ longer last n ∷ [])
whole_longer loss last n [] whole = λ goes. whole (record { touches = goes.touches; same = goes.same })
whole_longer loss last n (next ∷ rest) whole = whole

ranges_add : (at x : ℕ) (told : List Loss) (last piece : Loss) → AreRanges at x (told ++ last ∷ []) → (GoesOn last piece → ⊥) → piece.first ≡ x → 0 < piece.count
    → AreRanges at (x + piece.count) ((told ++ last ∷ []) ++ piece ∷ [])
ranges_add at x [] last piece are ends is some = (are.0, are.1, ends, (omega (arith, are.3, is), some, tt, omega (arith, is)))
ranges_add at x (loss ∷ told) last piece are ends is some =
    (are.0, are.1, whole_more loss last told (piece ∷ []) are.2, ranges_add (loss.first + loss.count) x told last piece are.3 ends is some)

ranges_longer : (at x n : ℕ) (told : List Loss) (last : Loss) → AreRanges at x (told ++ last ∷ []) → last.first + last.count ≡ x → AreRanges at (x + n) (told ++ longer last n ∷ [])
ranges_longer at x n [] last are is = (are.0, omega (arith, are.1), tt, omega (arith, is))
ranges_longer at x n (loss ∷ told) last are is = (are.0, are.1, whole_longer loss last n told are.2, ranges_longer (loss.first + loss.count) x n told last are.3 is)

-- ---- the causes then

cause_add_before : (y : ℕ) (rs : List Loss) (piece : Loss) → y < piece.first → cause_at (rs ++ piece ∷ []) y ≡ cause_at rs y
cause_add_before y [] piece lt = cause_past piece [] y (before piece y lt)
cause_add_before y (loss ∷ rs) piece lt = cause_cons loss (rs ++ piece ∷ []) rs y (cause_add_before y rs piece lt)

cause_add_here : (at x y : ℕ) (rs : List Loss) (piece : Loss) → AreRanges at x rs → piece.first ≡ x → x ≤ y → y < x + piece.count → cause_at (rs ++ piece ∷ []) y ≡ Some piece.cause
cause_add_here at x y [] piece are is low high = cause_in piece [] y (inside piece y (omega (arith, is, low)) (omega (arith, is, high)))
cause_add_here at x y (loss ∷ rs) piece are is low high =
    let under = ranges_low (loss.first + loss.count) x rs are.3 in
    cause_past loss (rs ++ piece ∷ []) y (behind loss y (omega (arith, under, low))) ∙ cause_add_here (loss.first + loss.count) x y rs piece are.3 is low high

same_in : (last : Loss) (n y : ℕ) → y < last.first + last.count → is_in_loss (longer last n) y ≡ is_in_loss last y
same_in last n y lt = grind arith

cause_longer_before : (x n y : ℕ) (told : List Loss) (last : Loss) → last.first + last.count ≡ x → y < x → cause_at (told ++ longer last n ∷ []) y ≡ cause_at (told ++ last ∷ []) y
cause_longer_before x n y [] last is lt = ap (λ (b : Bool). if b then Some last.cause else None) (same_in last n y (omega (arith, is, lt)))
cause_longer_before x n y (loss ∷ told) last is lt = cause_cons loss (told ++ longer last n ∷ []) (told ++ last ∷ []) y (cause_longer_before x n y told last is lt)

cause_longer_here : (at x n y : ℕ) (told : List Loss) (last : Loss) → AreRanges at x (told ++ last ∷ []) → last.first + last.count ≡ x → x ≤ y → y < x + n → cause_at (told ++ longer last n ∷ []) y ≡ Some last.cause
cause_longer_here at x n y [] last are is low high = cause_in (longer last n) [] y (inside (longer last n) y (omega (arith, is, low)) (omega (arith, is, high)))
cause_longer_here at x n y (loss ∷ told) last are is low high =
    let under = ranges_low (loss.first + loss.count) x (told ++ last ∷ []) are.3 in
    cause_past loss (told ++ longer last n ∷ []) y (behind loss y (omega (arith, under, low))) ∙ cause_longer_here (loss.first + loss.count) x n y told last are.3 is low high

-- ---- all of it

-- Ranges to a sector, and those to so many sectors behind it, which are lost for this cause or not lost.
pub record Grown (at x n : ℕ) (flag : Option Cause) (old new : List Loss) : Type 0 where
  pub ranges : AreRanges at (x + n) new
  pub kept : (y : ℕ) → y < x → cause_at new y ≡ cause_at old y
  pub here : (y : ℕ) → x ≤ y → y < x + n → cause_at new y ≡ flag
  pub count : lost_in new ≡ lost_in old + lost_among flag n

-- the first ranges were told only behind others
grown_first : (at x n : ℕ) (cause : Cause) → at ≤ x → 0 < n → Grown at x n (Some cause) [] (record { first = x; count = n; cause = cause } ∷ [])
grown_first at x n cause le some =
    let piece : Loss = record { first = x; count = n; cause = cause } in
    record {
      ranges = (le, some, tt, omega arith);
      kept = λ y lt. cause_add_before y [] piece lt;
      here = λ y low high. cause_add_here at x y [] piece le refl low high;
      count = omega arith;
    }

grown_add : (at x n : ℕ) (cause : Cause) (told : List Loss) (last : Loss) → AreRanges at x (told ++ last ∷ []) → (GoesOn last (record { first = x; count = n; cause = cause }) → ⊥) → 0 < n
    → Grown at x n (Some cause) (told ++ last ∷ []) ((told ++ last ∷ []) ++ record { first = x; count = n; cause = cause } ∷ [])
grown_add at x n cause told last are ends some =
    let piece : Loss = record { first = x; count = n; cause = cause } in
    record {
      ranges = ranges_add at x told last piece are ends refl some;
      kept = λ y lt. cause_add_before y (told ++ last ∷ []) piece lt;
      here = λ y low high. cause_add_here at x y (told ++ last ∷ []) piece are refl low high;
      count = omega (arith, sum_by-append (λ (l : Loss). l.count) (told ++ last ∷ []) (piece ∷ []));
    }

grown_longer : (at x n : ℕ) (cause : Cause) (told : List Loss) (last : Loss) → AreRanges at x (told ++ last ∷ []) → GoesOn last (record { first = x; count = n; cause = cause })
    → Grown at x n (Some cause) (told ++ last ∷ []) (told ++ longer last n ∷ [])
grown_longer at x n cause told last are goes = record {
  ranges = ranges_longer at x n told last are goes.touches;
  kept = λ y lt. cause_longer_before x n y told last goes.touches lt;
  here = λ y low high. cause_longer_here at x n y told last are goes.touches low high ∙ ap (λ (c : Cause). Some c) goes.same;
  count = omega (arith, sum_by-append (λ (l : Loss). l.count) told (last ∷ []), sum_by-append (λ (l : Loss). l.count) told (longer last n ∷ []));
}

grown_none : (at x n : ℕ) (rs : List Loss) → AreRanges at x rs → Grown at x n None rs rs
grown_none at x n rs are = record {
  ranges = ranges_later at x (x + n) rs are (omega arith);
  kept = λ y lt. refl;
  here = λ y low high. none_behind at x y rs are low;
  count = omega arith;
}

-- sectors come behind all others
pub grows : (at x n : ℕ) (flag : Option Cause) (before told : List Loss) (last next : Option Loss) → (last ≡ None → before ≡ []) → AreRanges at x (before ++ option_to_list last) → 0 < n → Comes flag x n last told next
    → Grown at x n flag (before ++ option_to_list last) ((before ++ told) ++ option_to_list next)
grows at x n None before told last next opens are some comes =
    subst (λ (l : List Loss). Grown at x n None (before ++ option_to_list last) l)
    (ap (λ (l : List Loss). l ++ option_to_list last) (sym (append-nil before)) ∙ ap (λ (t : List Loss). (before ++ t) ++ option_to_list last) (sym comes.0) ∙ ap (λ (o : Option Loss). (before ++ told) ++ option_to_list o) (sym comes.1))
    (grown_none at x n (before ++ option_to_list last) are)
grows at x n (Some cause) before told None next opens are some comes =
    let piece : Loss = record { first = x; count = n; cause = cause } in
    let empty : before ≡ [] = opens refl in
    subst (λ (l : List Loss). Grown at x n (Some cause) l ((before ++ told) ++ option_to_list next)) (sym (append-nil before) ∙ refl)
    (subst (λ (l : List Loss). Grown at x n (Some cause) before l)
    (sym (ap (λ (t : List Loss). (before ++ t) ++ option_to_list next) comes.0 ∙ ap (λ (o : Option Loss). (before ++ []) ++ option_to_list o) comes.1 ∙ ap (λ (b : List Loss). (b ++ []) ++ piece ∷ []) empty))
    (subst (λ (b : List Loss). Grown at x n (Some cause) b (piece ∷ [])) (sym empty)
    (grown_first at x n cause (ranges_low at x (before ++ []) are) some)))
grows at x n (Some cause) before told (Some last) next opens are some (inl joins) =
    let piece : Loss = record { first = x; count = n; cause = cause } in
    subst (λ (l : List Loss). Grown at x n (Some cause) (before ++ last ∷ []) l)
    (sym (ap (λ (t : List Loss). (before ++ t) ++ option_to_list next) joins.1 ∙ ap (λ (o : Option Loss). (before ++ []) ++ option_to_list o) joins.2 ∙ ap (λ (b : List Loss). b ++ longer last n ∷ []) (append-nil before)))
    (grown_longer at x n cause before last are joins.0)
grows at x n (Some cause) before told (Some last) next opens are some (inr ends) =
    let piece : Loss = record { first = x; count = n; cause = cause } in
    subst (λ (l : List Loss). Grown at x n (Some cause) (before ++ last ∷ []) l)
    (sym (ap (λ (t : List Loss). (before ++ t) ++ option_to_list next) ends.1 ∙ ap (λ (o : Option Loss). (before ++ last ∷ []) ++ option_to_list o) ends.2))
    (grown_add at x n cause before last are ends.0 some)

-- a range may go on then, where any was told
pub opens_then : (flag : Option Cause) (x n : ℕ) (before told : List Loss) (last next : Option Loss) → (last ≡ None → before ≡ []) → Comes flag x n last told next → next ≡ None → before ++ told ≡ []
opens_then None x n before told last next opens comes is =
    ap (λ (t : List Loss). before ++ t) comes.0 ∙ append-nil before ∙ opens (sym comes.1 ∙ is)
opens_then (Some cause) x n before told None next opens comes is = absurd cc
opens_then (Some cause) x n before told (Some last) next opens (inl joins) is = absurd cc
opens_then (Some cause) x n before told (Some last) next opens (inr ends) is = absurd cc

pub lost_few : (flag : Option Cause) (n : ℕ) → lost_among flag n ≤ n
lost_few None n = omega arith
lost_few (Some cause) n = omega arith
