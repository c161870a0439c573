-- The bytes of the sectors of a volume, and what is said of them so far.
use Rattle.std.proofs.Common.{◌≡◌, ℕ, zero, suc, ◌+◌, ◌*◌, ◌<◌, ◌≤◌, List, [], ◌∷◌, ◌++◌, map, flat_map, fold, bit_xor, length, get_or, take, drop, slice_index, refl, ap, sym, ◌∙◌, arith, Option, Some, unwrap_or, ◌-◌, subst, append_assoc}
use Rattle.std.specs.List.{range_with_len}
use Rattle.std.specs.Option.{option_map}
use Rattle.std.proofs.lemmas.List.{nil_from_length, ext_get_or, take-append-drop, get_or-take, get_or-drop, length-take-le, length-drop, map-append, append-nil, take-append-le}
use Rattle.std.proofs.lemmas.List.FromFn.{length-map-range_with_len, get_or-map-range_with_len}
use Rattle.std.proofs.lemmas.Grind.{flat_map-append, fold-append}
use Rattle.ldm_host.specs.Seen.{image}
use Rattle.ldm_places.specs.Layouts.{Layout}
use Rattle.ldm_copy.specs.declared.found.Found.{Found}
use Rattle.ldm_dump.specs.Sources.{sources_of}
use Rattle.ldm_dump.specs.Bytes.{byte_at, xor_all, joined_byte, joined_sector, sector_of, bytes_of, bytes_of_sectors}
use Rattle.ldm_dump.specs.Runs.{behind}
use Rattle.ldm_dump.specs.declared.spots.Spot.{Spot}
use Rattle.ldm_dump.proofs.RangeLaws.{range_append}
use Rattle.std.proofs.Math.Seq.{take-append-add}
use Rattle.ldm_host.specs.Moves.{Begins}

-- ---- The bytes that are read of a run are those of its sectors.

-- a list of whole sectors is those sectors one after another
pub flat_sectors : (F : ℕ → List ℕ) (n x : ℕ) (out : List ℕ) → length out ≡ 512 * n → ((i : ℕ) → i < n → length (F (x + i)) ≡ 512)
    → ((i k : ℕ) → i < n → k < 512 → get_or out (512 * i + k) 0 ≡ get_or (F (x + i)) k 0) → out ≡ flat_map F (range_with_len x n)
flat_sectors F zero x out size sizes bytes = nil_from_length out size
flat_sectors F (suc n) x out size sizes bytes =
    let here : x + 0 ≡ x = omega arith in
    let long : 512 ≤ length out = omega (arith, size) in
    let one : length (take 512 out) ≡ 512 = length-take-le 512 out long in
    let first : take 512 out ≡ F x =
    ext_get_or 0 (take 512 out) (F x) (one ∙ sym (sizes 0 (omega arith)) ∙ ap (λ y. length (F y)) here)
    (λ k lt. let low : k < 512 = omega (arith, lt, one) in let at : k ≡ 512 * 0 + k = omega arith in
    get_or-take 512 out k 0 low ∙ (ap (λ j. get_or out j 0) at ∙ (bytes 0 k (omega arith) low ∙ ap (λ y. get_or (F y) k 0) here))) in
    let rest : drop 512 out ≡ flat_map F (range_with_len (x + 1) n) =
    flat_sectors F n (x + 1) (drop 512 out) (length-drop 512 out ∙ omega (arith, size))
    (λ i lt. let e : x + suc i ≡ x + 1 + i = omega arith in sym (ap (λ y. length (F y)) e) ∙ sizes (suc i) (omega (arith, lt)))
    (λ i k lt low. let e : x + suc i ≡ x + 1 + i = omega arith in
    let at : 512 + (512 * i + k) ≡ 512 * suc i + k = omega arith in
    get_or-drop 512 out (512 * i + k) 0 ∙ (ap (λ j. get_or out j 0) at ∙ (bytes (suc i) k (omega (arith, lt)) low ∙ ap (λ y. get_or (F y) k 0) e))) in
    sym (take-append-drop 512 out) ∙ (ap (λ l. l ++ drop 512 out) first ∙ ap (λ l. F x ++ l) rest)

bytes_behind : (images : List (List ℕ)) (i k : ℕ) (spots : List Spot) → map (byte_at images k) (map (behind i) spots) ≡ map (byte_at images (512 * i + k)) spots
bytes_behind images i k [] = refl
bytes_behind images i k (s ∷ spots) =
    let at : 512 * (s.sector + i) + k ≡ 512 * s.sector + (512 * i + k) = omega arith in
    let one : byte_at images k (behind i s) ≡ byte_at images (512 * i + k) s = ap (λ j. slice_index (image images s.image) j) at in
    let rest = bytes_behind images i k spots in
    cc

pub joined_behind : (images : List (List ℕ)) (i k : ℕ) (spots : List Spot) → joined_byte images (map (behind i) spots) k ≡ joined_byte images spots (512 * i + k)
joined_behind images i k spots = ap xor_all (bytes_behind images i k spots)

-- the sectors of a run, as they are read
pub sector_in_run : (images : List (List ℕ)) (found : Found) (l : Layout) (x i : ℕ) (spots : List Spot) → sources_of found l (x + i) ≡ option_map (map (behind i)) (sources_of found l x)
    → sources_of found l x ≡ Some spots → bytes_of images found l (x + i) ≡ joined_sector images (map (behind i) spots)
unfolding sector_of
sector_in_run images found l x i spots moves is =
    ap (λ (o : Option (List Spot)). unwrap_or (option_map (joined_sector images) o) []) (moves ∙ ap (λ (o : Option (List Spot)). option_map (map (behind i)) o) is)

pub run_text : (images : List (List ℕ)) (found : Found) (l : Layout) (x n : ℕ) (spots : List Spot) (out : List ℕ)
    → ((i : ℕ) → i < n → sources_of found l (x + i) ≡ option_map (map (behind i)) (sources_of found l x)) → sources_of found l x ≡ Some spots
    → length out ≡ 512 * n → ((j : ℕ) → j < length out → slice_index out j ≡ joined_byte images spots j) → out ≡ bytes_of_sectors images found l x n
unfolding bytes_of_sectors
run_text images found l x n spots out moves is size bytes =
    flat_sectors (bytes_of images found l) n x out size
    (λ i lt. ap length (sector_in_run images found l x i spots (moves i lt) is) ∙ length-map-range_with_len (joined_byte images (map (behind i) spots)) 0 512)
    (λ i k lt low. bytes (512 * i + k) (omega (arith, size, lt, low))
    ∙ (sym (joined_behind images i k spots)
    ∙ (sym (get_or-map-range_with_len (joined_byte images (map (behind i) spots)) 0 512 k k 0 low (omega arith))
    ∙ sym (ap (λ (s : List ℕ). get_or s k 0) (sector_in_run images found l x i spots (moves i lt) is)))))

pub text_append : (images : List (List ℕ)) (found : Found) (l : Layout) (x m n : ℕ) → bytes_of_sectors images found l x (m + n) ≡ bytes_of_sectors images found l x m ++ bytes_of_sectors images found l (x + m) n
unfolding bytes_of_sectors
text_append images found l x m n =
    ap (λ (r : List ℕ). flat_map (bytes_of images found l) r) (range_append x m n) ∙ flat_map-append (bytes_of images found l) (range_with_len x m) (range_with_len (x + m) n)

pub no_text : (images : List (List ℕ)) (found : Found) (l : Layout) (x : ℕ) → bytes_of_sectors images found l x 0 ≡ []
unfolding bytes_of_sectors
no_text images found l x = refl

-- one sector, read whole
pub whole_sector : (images : List (List ℕ)) (found : Found) (l : Layout) (x : ℕ) (spots : List Spot) (out : List ℕ) → sources_of found l x ≡ Some spots → length out ≡ 512
    → ((j : ℕ) → j < length out → slice_index out j ≡ joined_byte images spots j) → sector_of images found l x ≡ Some out
unfolding sector_of
whole_sector images found l x spots out is size bytes =
    ap (λ (o : Option (List Spot)). option_map (joined_sector images) o) is ∙ ap (λ (s : List ℕ). Some s) (sym same)
  where
    same : out ≡ joined_sector images spots
    same = ext_get_or 0 out (joined_sector images spots) (size ∙ sym (length-map-range_with_len (joined_byte images spots) 0 512))
        (λ k lt. bytes k lt ∙ sym (get_or-map-range_with_len (joined_byte images spots) 0 512 k k 0 (omega (arith, lt, size)) (omega arith)))

-- what a spot more adds
pub joined_more : (images : List (List ℕ)) (spots more : List Spot) (j : ℕ) → joined_byte images (spots ++ more) j ≡ fold bit_xor (joined_byte images spots j) (map (byte_at images j) more)
joined_more images spots more j =
    ap xor_all (map-append (byte_at images j) spots more) ∙ fold-append bit_xor 0 (map (byte_at images j) spots) (map (byte_at images j) more)

-- ---- What is said of a volume, run by run.

-- a front of a text was said after some other
begins_front : (before text : List ℕ) (n : ℕ) → Begins (before ++ take n text) (before ++ text)
begins_front before text n = (drop n text, ap (λ (l : List ℕ). before ++ l) (sym (take-append-drop n text)) ∙ sym (append_assoc before (take n text) (drop n text)))

-- any text that is said piece by piece: what is said of the first places, and of so many places from one on
module _ (front : List (List ℕ) → ℕ → List ℕ) (piece : List (List ℕ) → ℕ → ℕ → List ℕ) (more : (images : List (List ℕ)) (x n : ℕ) → front images (x + n) ≡ front images x ++ piece images x n) where
  -- what is said so far, and then a piece, which is made of the same images
  pub said_on : (images now : List (List ℕ)) (old mid new : List ℕ) (x n : ℕ) → now ≡ images → mid ≡ old ++ front images x → new ≡ mid ++ piece now x n → new ≡ old ++ front images (x + n)
  said_on images now old mid new x n same so is =
      is ∙ (ap (λ (i : List (List ℕ)). mid ++ piece i x n) same
      ∙ (ap (λ (m : List ℕ). m ++ piece images x n) so
      ∙ (append_assoc old (front images x) (piece images x n)
      ∙ ap (λ (t : List ℕ). old ++ t) (sym (more images x n)))))

  -- what was said in part of a piece more begins the whole
  pub part_said : (images now : List (List ℕ)) (old mid new : List ℕ) (x n all : ℕ) → now ≡ images → mid ≡ old ++ front images x → x + n ≤ all → Begins new (mid ++ piece now x n)
      → Begins new (old ++ front images all)
  part_said images now old mid new x n all same so le part =
      let whole = said_on images now old mid (mid ++ piece now x n) x n same so refl in
      let rest = piece images (x + n) (all - (x + n)) in
      let e : all ≡ x + n + (all - (x + n)) = omega (arith, le) in (
        part.0 ++ rest,
        ap (λ (k : ℕ). old ++ front images k) e ∙ ap (λ (t : List ℕ). old ++ t) (more images (x + n) (all - (x + n)))
            ∙ (sym (append_assoc old (front images (x + n)) rest)
            ∙ (ap (λ (m : List ℕ). m ++ rest) (sym whole ∙ part.1)
            ∙ append_assoc new part.0 rest)),
      )

-- all of a text
pub begins_all : (whole new : List ℕ) → new ≡ whole → Begins new whole
begins_all whole new is = ([], sym is ∙ sym (append-nil new))

-- a front was said of a text that is this one
pub begins_of : (old text made new : List ℕ) → made ≡ text → (n : ℕ) × (new ≡ old ++ take n made) → Begins new (old ++ text)
begins_of old text made new same part = subst (λ (s : List ℕ). Begins s (old ++ text)) (sym (part.1 ∙ ap (λ (t : List ℕ). old ++ take part.0 t) same)) (begins_front old text part.0)

-- sectors that are read so far, and those of a run behind them in the same buffer
pub text_step : (images now : List (List ℕ)) (found : Found) (l : Layout) (x c n : ℕ) (out part post : List ℕ) → now ≡ images → 512 * c ≤ length out → 512 * n ≤ length part
    → take (512 * c) out ≡ bytes_of_sectors images found l x c → take (512 * n) part ≡ bytes_of_sectors now found l (x + c) n
    → take (512 * (c + n)) (take (512 * c) out ++ (part ++ post)) ≡ bytes_of_sectors images found l x (c + n)
text_step images now found l x c n out part post same long enough first next =
    let front : List ℕ = take (512 * c) out in
    let split : 512 * (c + n) ≡ length front + 512 * n = omega (arith, length-take-le (512 * c) out long) in
    ap (λ (m : ℕ). take m (front ++ (part ++ post))) split
    ∙ (take-append-add front (part ++ post) (512 * n)
    ∙ (ap (λ (t : List ℕ). front ++ t) (take-append-le (512 * n) part post enough)
    ∙ (ap (λ (t : List ℕ). t ++ take (512 * n) part) first
    ∙ (ap (λ (t : List ℕ). bytes_of_sectors images found l x c ++ t) (next ∙ ap (λ (i : List (List ℕ)). bytes_of_sectors i found l (x + c) n) same)
    ∙ sym (text_append images found l x c n)))))
