-- Where no read fails and no disk is behind, the first source of a sector is what dump reads.
use Rattle.std.proofs.Common.{◌≡◌, ℕ, ◌+◌, ◌-◌, Bool, true, false, not, cond, List, [], ◌∷◌, ◌++◌, slice_get, refl, ap, sym, ◌∙◌, arith, Option, Some, None, is_some, option_and_then, find, filter_map, if◌then◌else◌, inl, inr}
use Rattle.std.specs.List.{range_with_len, cons_option}
use Rattle.std.specs.Option.{option_map, option_or, option_to_list}
use Rattle.std.proofs.lemmas.List.Elements.{filter_map-append}
use Rattle.ldm_places.specs.Layouts.{Layout, copies_of, place_in}
use Rattle.ldm_copy.specs.declared.found.Found.{Found}
use Rattle.ldm_dump.specs.Sources.{is_here, first_copy, copy_spot, other_spots, can_rebuild, sources_by, sources_of}
use Rattle.ldm_dump.specs.Bytes.{joined_sector, sector_of}
use Rattle.ldm_dump.specs.declared.spots.Spot.{Spot}
use Rattle.ldm_dump.proofs.RangeLaws.{range_append, made_same_in}
use Rattle.ldm_dump.proofs.ReadLaws.{here_is, there_is, copy_there}
use Rattle.ldm_rescue.specs.Rescued.{is_stale, source_if, fresh_source, stale_source, rebuilt_source, source_in, turn_count, sources_in_order, IsRescued, RescuesAsDump}
use Rattle.ldm_rescue.proofs.SourceLaws.{all_turns, fresh_turn, stale_turn, rebuilt_turn}

-- ---- the first of what is made

first_or : {X : Type 0} (xs ys : List X) → slice_get (xs ++ ys) 0 ≡ option_or (slice_get xs 0) (slice_get ys 0)
first_or [] ys = refl
first_or (x ∷ xs) ys = refl

-- what is made of the first number that passes, where something is made of just those that pass
first_made : {X : Type 0} (t : ℕ → Bool) (f : ℕ → Option X) (xs : List ℕ) → ((c : ℕ) → t c ≡ is_some (f c)) → slice_get (filter_map f xs) 0 ≡ option_and_then f (find t xs)
first_made t f [] same = refl
first_made {X} t f (x ∷ xs) same =
    step (f x) (t x) refl (same x) (first_made t f xs same)
  where
    step : (o : Option X) (b : Bool) → f x ≡ o → b ≡ is_some (f x) → slice_get (filter_map f xs) 0 ≡ option_and_then f (find t xs)
        → slice_get (cons_option o (filter_map f xs)) 0 ≡ option_and_then f (cond b (Some x) (find t xs))
    step None true is passes rest = absurd cc
    step None false is passes rest = rest
    step (Some y) true is passes rest = sym is
    step (Some y) false is passes rest = absurd cc

-- ---- no disk is behind

module _ (found : Found) (l : Layout) (x : ℕ) (current : (image : ℕ) → is_stale found image ≡ false) where
  -- then each copy that is here is tried first
  fresh_is : (copy : ℕ) → fresh_source found l x copy ≡ option_map (λ spot. spot ∷ []) (copy_spot found l x copy)
  fresh_is copy = go (copy_spot found l x copy)
    where
      go : (o : Option Spot) → option_and_then (λ spot. source_if (not (is_stale found spot.image)) spot) o ≡ option_map (λ spot. spot ∷ []) o
      go None = refl
      go (Some spot) = ap (λ (b : Bool). source_if (not b) spot) (current spot.image)

  stale_is : (copy : ℕ) → stale_source found l x copy ≡ None
  stale_is copy = go (copy_spot found l x copy)
    where
      go : (o : Option Spot) → option_and_then (λ spot. source_if (is_stale found spot.image) spot) o ≡ None
      go None = refl
      go (Some spot) = ap (λ (b : Bool). source_if b spot) (current spot.image)

  fresh_here : (copy : ℕ) → is_here found (place_in l x copy) ≡ is_some (fresh_source found l x copy)
  fresh_here copy = here_is found (place_in l x copy) ∙ (go (copy_spot found l x copy) ∙ sym (ap is_some (fresh_is copy)))
    where
      go : (o : Option Spot) → is_some o ≡ is_some (option_map (λ spot. spot ∷ []) o)
      go None = refl
      go (Some spot) = refl

  nothing_made : (xs : List ℕ) → filter_map {Y = List Spot} (λ (c : ℕ). None) xs ≡ []
  nothing_made [] = refl
  nothing_made (c ∷ xs) = nothing_made xs

  parts : sources_in_order found l x ≡ filter_map (source_in found l x) (range_with_len 0 (copies_of l))
      ++ (filter_map (source_in found l x) (range_with_len (0 + copies_of l) (copies_of l)) ++ filter_map (source_in found l x) (range_with_len (0 + copies_of l + copies_of l) 1))
  parts =
      let k = copies_of l in
      let e : turn_count l ≡ k + (k + 1) = omega arith in
      let s = source_in found l x in
      all_turns found l x
      ∙ (ap (λ (n : ℕ). filter_map s (range_with_len 0 n)) e
      ∙ (ap (filter_map s) (range_append 0 k (k + 1) ∙ ap (λ (r : List ℕ). range_with_len 0 k ++ r) (range_append (0 + k) k 1))
      ∙ (filter_map-append s (range_with_len 0 k) (range_with_len (0 + k) k ++ range_with_len (0 + k + k) 1)
      ∙ ap (λ (r : List (List Spot)). filter_map s (range_with_len 0 k) ++ r) (filter_map-append s (range_with_len (0 + k) k) (range_with_len (0 + k + k) 1)))))

  copies_first : slice_get (filter_map (source_in found l x) (range_with_len 0 (copies_of l))) 0 ≡ option_and_then (fresh_source found l x) (first_copy found l x)
  unfolding first_copy
  copies_first =
      ap (λ (r : List (List Spot)). slice_get r 0) (made_same_in (source_in found l x) (fresh_source found l x) 0 (copies_of l) (λ c low high. fresh_turn found l x c (omega (arith, high))))
      ∙ first_made (λ copy. is_here found (place_in l x copy)) (fresh_source found l x) (range_with_len 0 (copies_of l)) fresh_here

  none_stale : filter_map (source_in found l x) (range_with_len (0 + copies_of l) (copies_of l)) ≡ []
  none_stale =
      made_same_in (source_in found l x) (λ c. None) (0 + copies_of l) (copies_of l)
      (λ c low high. stale_turn found l x c (omega (arith, low)) (omega (arith, high)) ∙ stale_is (c - copies_of l))
      ∙ nothing_made (range_with_len (0 + copies_of l) (copies_of l))

  last : slice_get (filter_map (source_in found l x) (range_with_len (0 + copies_of l + copies_of l) 1)) 0 ≡ rebuilt_source found l x
  last =
      go (source_in found l x (0 + copies_of l + copies_of l)) ∙ rebuilt_turn found l x (0 + copies_of l + copies_of l) (omega arith)
    where
      go : (o : Option (List Spot)) → slice_get (cons_option o []) 0 ≡ o
      go None = refl
      go (Some spots) = refl

  both : (o : Option ℕ) (b : Bool) → first_copy found l x ≡ o → can_rebuild found l x ≡ b → option_or (option_and_then (fresh_source found l x) o) (if b then Some (other_spots found l x) else None) ≡ sources_by found l x o b
  both None true is can = refl
  both None false is can = refl
  both (Some copy) b is can =
      let here = (copy_there found l x copy (sym is)).1 in
      let spot = there_is found (place_in l x copy) here in
      ap (λ (o : Option (List Spot)). option_or o (if b then Some (other_spots found l x) else None)) (fresh_is copy ∙ ap (option_map (λ s. s ∷ [])) spot.1)
      ∙ sym (ap (λ (o : Option Spot). Some (option_to_list o)) spot.1)

  pub first_is : slice_get (sources_in_order found l x) 0 ≡ sources_of found l x
  unfolding sources_of
  first_is =
      let s = source_in found l x in
      let k = copies_of l in
      ap (λ (r : List (List Spot)). slice_get r 0) parts
      ∙ (first_or (filter_map s (range_with_len 0 k)) (filter_map s (range_with_len (0 + k) k) ++ filter_map s (range_with_len (0 + k + k) 1))
      ∙ (ap (λ (o : Option (List Spot)). option_or o (slice_get (filter_map s (range_with_len (0 + k) k) ++ filter_map s (range_with_len (0 + k + k) 1)) 0)) copies_first
      ∙ (ap (λ (r : List (List Spot)). option_or (option_and_then (fresh_source found l x) (first_copy found l x)) (slice_get (r ++ filter_map s (range_with_len (0 + k + k) 1)) 0)) none_stale
      ∙ (ap (option_or (option_and_then (fresh_source found l x) (first_copy found l x))) last
      ∙ both (first_copy found l x) (can_rebuild found l x) refl refl))))

-- what is said where no read failed is of the first source
only_first : (images : List (List ℕ)) (sources : List (List Spot)) (bytes : List ℕ) → IsRescued images [] sources bytes false → option_map (joined_sector images) (slice_get sources 0) ≡ Some bytes
only_first images [] bytes is = (let lost = is.1 in absurd cc)
only_first images (source ∷ more) bytes (inl here) = ap (λ (t : List ℕ). Some t) (sym here.0)
only_first images (source ∷ more) bytes (inr later) = (let none = later.0.1.missed.1 in absurd (omega (arith, none)))

pub rescues_as_dump : RescuesAsDump
unfolding sector_of
rescues_as_dump images found l x bytes current is =
    ap (option_map (joined_sector images)) (sym (first_is found l x current)) ∙ only_first images (sources_in_order found l x) bytes is
