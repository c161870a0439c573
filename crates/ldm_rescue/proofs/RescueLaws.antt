-- What is said of sectors that are read off disks that fail.
use Rattle.std.proofs.Common.{◌≡◌, ℕ, ◌+◌, ◌-◌, ◌*◌, ◌/◌, ◌<◌, ◌≤◌, Bool, true, false, List, [], ◌∷◌, ◌++◌, map, length, take, drop, slice_index, slice_get, replicate, Contains, refl, ap, sym, subst, ◌∙◌, arith, append_assoc, Option, Some, None, inl, inr}
use Rattle.std.specs.Option.{option_map, option_to_list, IfSome}
use Rattle.std.proofs.lemmas.Bool.{cases_lt}
use Rattle.std.proofs.lemmas.List.{ext_get_or, get_or-take, get_or-drop, length-take-le, length-drop, length-append, append-nil, get_or-replicate, length-replicate, take-append-le, drop-append-le}
use Rattle.std.proofs.lemmas.List.FromFn.{length-map-range_with_len, get_or-map-range_with_len}
use Rattle.std.proofs.Math.Seq.{drop-append-add, drop-append_seam, take-append_seam, take-add, take-length}
use Rattle.ldm_host.specs.declared.host.DiskRange.{DiskRange}
use Rattle.ldm_host.specs.Moves.{Grows}
use Rattle.ldm_places.specs.Layouts.{Layout, copies_of, place_in}
use Rattle.ldm_copy.specs.declared.found.Found.{Found}
use Rattle.ldm_places.specs.Columns.{moved}
use Rattle.ldm_places.specs.declared.shape.Place.{Place}
use Rattle.ldm_dump.specs.Sources.{is_here}
use Rattle.ldm_dump.proofs.RunLaws.{here_moved}
use Rattle.ldm_dump.specs.Runs.{behind}
use Rattle.ldm_dump.specs.Bytes.{joined_byte, joined_sector}
use Rattle.ldm_dump.specs.declared.spots.Spot.{Spot}
use Rattle.ldm_dump.proofs.ByteLaws.{joined_behind}
use Rattle.ldm_rescue.specs.declared.reading.Cause.{Cause}
use Rattle.ldm_rescue.specs.declared.reading.Cause.TheVariants.{Absent, Unread}
use Rattle.ldm_rescue.specs.Rescued.{sources_in_order, source_in, turn_count, AreTogether, range_of, IsMissed, IsMissedOn, IsRescued, AreRescued, nth_sector, AreUnread, IsLastUnread, FailedOn, IsAbsent, IsCause, HaveCause}
use Rattle.ldm_rescue.proofs.ListLaws.{contains_first, since_sooner, since_later, made_next, made_at}
use Rattle.ldm_rescue.proofs.SourceLaws.{sources_to, all_turns, sources_along}

-- ---- an account that grows: what is said of a sector stays so

-- what is in the first account is in the second
abbrev pub Covers : List DiskRange → List DiskRange → Type 0
Covers few all = (r : DiskRange) → Contains few r → Contains all r

pub covers_later : (a b c : List DiskRange) → Grows a b → Grows b c → Covers (drop (length a) b) (drop (length a) c)
covers_later a b c first next r h = since_later a b c r first next h

pub covers_sooner : (a b c : List DiskRange) → Grows a b → Grows b c → Covers (drop (length b) c) (drop (length a) c)
covers_sooner a b c first next r h = since_sooner a b c r first next h

unread_covered : (few all : List DiskRange) (source : List Spot) (spot : Spot) → Covers few all → IsMissed few source spot → IsMissed all source spot
unread_covered few all source spot covers is = record { part = is.part; missed = covers _ is.missed }

pub rescued_covered : (images : List (List ℕ)) (few all : List DiskRange) (sources : List (List Spot)) (bytes : List ℕ) (lost : Bool) → Covers few all → IsRescued images few sources bytes lost → IsRescued images all sources bytes lost
rescued_covered images few all [] bytes lost covers is = is
rescued_covered images few all (source ∷ more) bytes lost covers (inl here) = inl here
rescued_covered images few all (source ∷ more) bytes lost covers (inr later) =
    inr ((later.0.0, unread_covered few all source later.0.0 covers later.0.1), rescued_covered images few all more bytes lost covers later.1)

pub are_unread_covered : (few all : List DiskRange) (sources : List (List Spot)) → Covers few all → AreUnread few sources → AreUnread all sources
are_unread_covered few all [] covers is = tt
are_unread_covered few all (source ∷ more) covers is = ((is.0.0, unread_covered few all source is.0.0 covers is.0.1), are_unread_covered few all more covers is.1)

pub unread_on_covered : (few all : List DiskRange) (sources : List (List Spot)) (image : ℕ) → Covers few all → IsMissedOn few sources image → IsMissedOn all sources image
unread_on_covered few all sources image covers is = record { before = is.before; source = is.source; last = is.last; spot = is.spot; unread = unread_covered few all is.source is.spot covers is.unread; on = is.on }

pub cause_covered : (found : Found) (l : Layout) (few all : List DiskRange) (x : ℕ) (cause : Cause) → Covers few all → IsCause found l few x cause → IsCause found l all x cause
cause_covered found l few all x (Absent disk) covers is = is
cause_covered found l few all x (Unread image) covers is = unread_on_covered few all (sources_in_order found l x) image covers is

pub are_rescued_covered : (images : List (List ℕ)) (few all : List DiskRange) (found : Found) (l : Layout) (first count : ℕ) (lost : ℕ → Bool) (bytes : List ℕ) → Covers few all
    → AreRescued images few found l first count lost bytes → AreRescued images all found l first count lost bytes
are_rescued_covered images few all found l first count lost bytes covers is = record {
  size = is.size;
  each = λ i lt. rescued_covered images few all (sources_in_order found l (first + i)) (nth_sector bytes i) (lost (first + i)) covers (is.each i lt);
}

-- ---- sources that are tried one after another

pub rescued_behind : (images : List (List ℕ)) (failed : List DiskRange) (before sources : List (List Spot)) (bytes : List ℕ) (lost : Bool) → AreUnread failed before → IsRescued images failed sources bytes lost
    → IsRescued images failed (before ++ sources) bytes lost
rescued_behind images failed [] sources bytes lost unread is = is
rescued_behind images failed (source ∷ more) sources bytes lost unread is = inr (unread.0, rescued_behind images failed more sources bytes lost unread.1 is)

-- one that isn't lost has no need of further sources
pub rescued_more : (images : List (List ℕ)) (failed : List DiskRange) (sources more : List (List Spot)) (bytes : List ℕ) → IsRescued images failed sources bytes false → IsRescued images failed (sources ++ more) bytes false
rescued_more images failed [] more bytes is = (let lost = is.1 in absurd cc)
rescued_more images failed (source ∷ sources) more bytes (inl here) = inl here
rescued_more images failed (source ∷ sources) more bytes (inr later) = inr (later.0, rescued_more images failed sources more bytes later.1)

pub rescued_lost : (images : List (List ℕ)) (failed : List DiskRange) (sources : List (List Spot)) (bytes : List ℕ) → AreUnread failed sources → bytes ≡ replicate 512 0 → IsRescued images failed sources bytes true
rescued_lost images failed [] bytes unread zeros = (zeros, refl)
rescued_lost images failed (source ∷ more) bytes unread zeros = inr (unread.0, rescued_lost images failed more bytes unread.1 zeros)

pub unread_both : (failed : List DiskRange) (first second : List (List Spot)) → AreUnread failed first → AreUnread failed second → AreUnread failed (first ++ second)
unread_both failed [] second a b = b
unread_both failed (source ∷ more) second a b = (a.0, unread_both failed more second a.1 b)

-- ---- what was read of one source

-- bytes that are read at each place
pub joined_whole : (images : List (List ℕ)) (spots : List Spot) (out : List ℕ) → length out ≡ 512 → ((j : ℕ) → j < 512 → slice_index out j ≡ joined_byte images spots j) → out ≡ joined_sector images spots
joined_whole images spots out size bytes =
    ext_get_or 0 out (joined_sector images spots) (size ∙ sym (length-map-range_with_len (joined_byte images spots) 0 512))
    (λ k lt. bytes k (omega (arith, lt, size)) ∙ sym (get_or-map-range_with_len (joined_byte images spots) 0 512 k k 0 (omega (arith, lt, size)) (omega arith)))

pub zeros_whole : (out : List ℕ) (n : ℕ) → length out ≡ n → ((j : ℕ) → j < n → slice_index out j ≡ 0) → out ≡ replicate n 0
zeros_whole out n size bytes =
    ext_get_or 0 out (replicate n 0) (size ∙ sym (length-replicate n 0))
    (λ k lt. bytes k (omega (arith, lt, size)) ∙ sym (get_or-replicate n k 0 0 (omega (arith, lt, size))))

module _ (images : List (List ℕ)) (failed : List DiskRange) (o : Option (List Spot)) (out : List ℕ) where
  pub tried_ok : (spots : List Spot) → Some spots ≡ o → length out ≡ 512 → ((j : ℕ) → j < 512 → slice_index out j ≡ joined_byte images spots j) → IsRescued images failed (option_to_list o) out false
  tried_ok spots is size bytes =
      subst (λ (p : Option (List Spot)). IsRescued images failed (option_to_list p) out false) is (inl (joined_whole images spots out size bytes, refl))

  pub tried_err : (spots : List Spot) (before after : List DiskRange) (image : ℕ) → Some spots ≡ o → failed ≡ drop (length before) after → FailedOn spots 512 before after image → AreUnread failed (option_to_list o) × IsMissedOn failed (option_to_list o) image
  tried_err spots before after image is account f =
      let unread : IsMissed failed spots f.spot = record { part = f.part; missed = subst (λ (a : List DiskRange). Contains a (range_of f.spot 512)) (sym account) f.failed } in
      subst (λ (p : Option (List Spot)). AreUnread failed (option_to_list p) × IsMissedOn failed (option_to_list p) image) is
      (((f.spot, unread), tt), record { before = []; source = spots; last = refl; spot = f.spot; unread = unread; on = f.on })

-- a failure among fewer sectors, since a later moment
pub failed_on_sooner : (few spots : List Spot) (n m : ℕ) (a b c : List DiskRange) (image : ℕ) → FailedOn few n b c image → Grows a b → Grows b c → ((s : Spot) → Contains few s → Contains spots s) → n ≡ m
    → FailedOn spots m a c image
failed_on_sooner few spots n m a b c image f first next among same = record {
  spot = f.spot;
  part = among f.spot f.part;
  on = f.on;
  failed = subst (λ (k : ℕ). Contains (drop (length a) c) (range_of f.spot k)) same (since_sooner a b c (range_of f.spot n) first next f.failed);
}

-- ---- turn by turn

-- none of the sources so far could be read, of which the last is that of this image
abbrev pub AreTried : List DiskRange → List (List Spot) → Option ℕ → Type 0
AreTried failed sources image = AreUnread failed sources × IsLastUnread failed sources image

-- the last of two, if there is one
pub tried_both : (failed : List DiskRange) (first second : List (List Spot)) (a b : Option ℕ) (last : Option ℕ) → AreTried failed first a → AreTried failed second b
    → (b ≡ None → last ≡ a) → ((image : ℕ) → b ≡ Some image → last ≡ Some image) → AreTried failed (first ++ second) last
tried_both failed first second a b last one two none some =
    (unread_both failed first second one.0 two.0, go b refl two.1)
  where
    front : (c : Option ℕ) → a ≡ c → IsLastUnread failed first c → second ≡ [] → IsLastUnread failed (first ++ second) c
    front None is last empty = ap (λ (s : List (List Spot)). s ++ second) last ∙ empty
    front (Some image) is last empty = subst (λ (s : List (List Spot)). IsMissedOn failed s image) (sym (ap (λ (s : List (List Spot)). first ++ s) empty ∙ append-nil first)) last

    go : (c : Option ℕ) → b ≡ c → IsLastUnread failed second c → IsLastUnread failed (first ++ second) last
    go None is empty = subst (λ (o : Option ℕ). IsLastUnread failed (first ++ second) o) (sym (none is)) (front a refl one.1 empty)
    go (Some image) is last_one = subst (λ (o : Option ℕ). IsLastUnread failed (first ++ second) o) (sym (some image is))
        (record { before = first ++ last_one.before; source = last_one.source; last = ap (λ (s : List (List Spot)). first ++ s) last_one.last ∙ sym (append_assoc first last_one.before (last_one.source ∷ [])); spot = last_one.spot; unread = last_one.unread; on = last_one.on })

pub tried_covered : (few all : List DiskRange) (sources : List (List Spot)) (image : Option ℕ) → Covers few all → AreTried few sources image → AreTried all sources image
tried_covered few all sources None covers is = (are_unread_covered few all sources covers is.0, is.1)
tried_covered few all sources (Some image) covers is = (are_unread_covered few all sources covers is.0, unread_on_covered few all sources image covers is.1)

-- the sector of a turn, behind those that could not be read
pub turn_read : (images : List (List ℕ)) (failed : List DiskRange) (found : Found) (l : Layout) (x turn : ℕ) (bytes : List ℕ) → turn < turn_count l → AreUnread failed (sources_to found l x turn)
    → IsRescued images failed (option_to_list (source_in found l x turn)) bytes false → IsRescued images failed (sources_in_order found l x) bytes false
turn_read images failed found l x turn bytes lt unread is =
    let at = made_at (source_in found l x) (turn_count l) turn lt in
    subst (λ (s : List (List Spot)). IsRescued images failed s bytes false) (sym (all_turns found l x ∙ at.1))
    (rescued_behind images failed (sources_to found l x turn) (option_to_list (source_in found l x turn) ++ at.0) bytes false unread
    (rescued_more images failed (option_to_list (source_in found l x turn)) at.0 bytes is))

pub turn_next : (failed : List DiskRange) (found : Found) (l : Layout) (x turn : ℕ) (a b last : Option ℕ) → AreTried failed (sources_to found l x turn) a → AreTried failed (option_to_list (source_in found l x turn)) b
    → (b ≡ None → last ≡ a) → ((image : ℕ) → b ≡ Some image → last ≡ Some image) → AreTried failed (sources_to found l x (turn + 1)) last
turn_next failed found l x turn a b last one two none some =
    subst (λ (s : List (List Spot)). AreTried failed s last) (sym (made_next (source_in found l x) turn))
    (tried_both failed (sources_to found l x turn) (option_to_list (source_in found l x turn)) a b last one two none some)

pub turns_done : (failed : List DiskRange) (found : Found) (l : Layout) (x turn : ℕ) (last : Option ℕ) → turn ≡ turn_count l → AreTried failed (sources_to found l x turn) last → AreTried failed (sources_in_order found l x) last
turns_done failed found l x turn last all is =
    subst (λ (s : List (List Spot)). AreTried failed s last) (sym (all_turns found l x)) (subst (λ (k : ℕ). AreTried failed (sources_to found l x k) last) all is)

-- ---- the cause of a sector is that of those behind it

pub disk_moved : (i disk : ℕ) (o : Option Place) → option_map (λ (p : Place). p.disk) o ≡ Some disk → option_map (λ (p : Place). p.disk) (option_map (moved i) o) ≡ Some disk
disk_moved i disk None is = is
disk_moved i disk (Some p) is = is

pub absent_along : (found : Found) (l : Layout) (x n i disk : ℕ) → AreTogether l x n → i < n → 0 < copies_of l → IsAbsent found l x disk → IsAbsent found l (x + i) disk
absent_along found l x n i disk so lt some is = record {
  first = ap (option_map (λ (p : Place). p.disk)) (so.copies i 0 lt some) ∙ disk_moved i disk (place_in l x 0) is.first;
  absent = ap (is_here found) (so.copies i 0 lt some) ∙ (here_moved found i (place_in l x 0) ∙ is.absent);
  none = sources_along found l x n so i lt ∙ ap (map (map (behind i))) is.none;
}

-- ---- a sector that is put at its place

pub placed_front : (out part post : List ℕ) (k : ℕ) → k ≤ length out → take k (take k out ++ (part ++ post)) ≡ take k out
placed_front out part post k few =
    ap (λ (n : ℕ). take n (take k out ++ (part ++ post))) (sym (length-take-le k out few)) ∙ take-append_seam (take k out) (part ++ post)

pub placed_nth : (out part post : List ℕ) (c : ℕ) → 512 * c ≤ length out → length part ≡ 512 → nth_sector (take (512 * c) out ++ (part ++ post)) c ≡ part
placed_nth out part post c few size =
    ap (take 512) (ap (λ (n : ℕ). drop n (take (512 * c) out ++ (part ++ post))) (sym (length-take-le (512 * c) out few)) ∙ drop-append_seam (take (512 * c) out) (part ++ post))
    ∙ (ap (λ (n : ℕ). take n (part ++ post)) (sym size) ∙ take-append_seam part post)

pub take_next : (out : List ℕ) (c : ℕ) → take (512 * (c + 1)) out ≡ take (512 * c) out ++ nth_sector out c
take_next out c = (let e : 512 * (c + 1) ≡ 512 * c + 512 = omega arith in ap (λ (n : ℕ). take n out) e ∙ take-add (512 * c) 512 out)

-- ---- sectors one after another

pub nth_append_low : (front next : List ℕ) (m i : ℕ) → length front ≡ 512 * m → i < m → nth_sector (front ++ next) i ≡ nth_sector front i
nth_append_low front next m i size lt =
    ap (take 512) (drop-append-le (512 * i) front next (omega (arith, size, lt)))
    ∙ take-append-le 512 (drop (512 * i) front) next (omega (arith, size, lt, length-drop (512 * i) front))

pub nth_append_high : (front next : List ℕ) (m i : ℕ) → length front ≡ 512 * m → nth_sector (front ++ next) (m + i) ≡ nth_sector next i
nth_append_high front next m i size =
    let at : 512 * (m + i) ≡ length front + 512 * i = omega (arith, size) in
    ap (take 512) (ap (λ (k : ℕ). drop k (front ++ next)) at ∙ drop-append-add front next (512 * i))

module _ (images : List (List ℕ)) (failed : List DiskRange) (found : Found) (l : Layout) where
  pub rescued_both : (x m n : ℕ) (lost : ℕ → Bool) (front next : List ℕ) → AreRescued images failed found l x m lost front → AreRescued images failed found l (x + m) n lost next
      → AreRescued images failed found l x (m + n) lost (front ++ next)
  rescued_both x m n lost front next a b = record {
    size = omega (arith, a.size, b.size, length-append front next);
    each = λ i lt. elim (cases_lt i m) [
      | inl low ↦ subst (λ (s : List ℕ). IsRescued images failed (sources_in_order found l (x + i)) s (lost (x + i))) (sym (nth_append_low front next m i a.size low)) (a.each i low)
      | inr high ↦ (let k = i - m in let e : i ≡ m + k = omega (arith, high) in let f : x + m + k ≡ x + i = omega (arith, high) in
          subst (λ (s : List ℕ). IsRescued images failed (sources_in_order found l (x + i)) s (lost (x + i))) (sym (ap (nth_sector (front ++ next)) e ∙ nth_append_high front next m k a.size))
          (subst (λ (y : ℕ). IsRescued images failed (sources_in_order found l y) (nth_sector next k) (lost y)) f (b.each k (omega (arith, lt, high)))))
    ];
  }

  pub rescued_one : (x : ℕ) (lost : ℕ → Bool) (bytes : List ℕ) → length bytes ≡ 512 → IsRescued images failed (sources_in_order found l x) bytes (lost x) → AreRescued images failed found l x 1 lost bytes
  rescued_one x lost bytes size is = record {
    size = size;
    each = λ i lt. (let none : i ≡ 0 = omega (arith, lt) in let here : x ≡ x + i = omega (arith, lt) in
        subst (λ (s : List ℕ). IsRescued images failed (sources_in_order found l (x + i)) s (lost (x + i))) (sym (ap (nth_sector bytes) none ∙ whole))
        (subst (λ (y : ℕ). IsRescued images failed (sources_in_order found l y) bytes (lost y)) here is));
  }
    where
      whole : nth_sector bytes 0 ≡ bytes
      whole = ap (λ (k : ℕ). take k bytes) (sym size) ∙ take-length bytes

  -- a run that was read from the first source
  pub rescued_run : (x n : ℕ) (spots : List Spot) (out : List ℕ) → AreTogether l x n → slice_get (sources_in_order found l x) 0 ≡ Some spots → length out ≡ 512 * n
      → ((j : ℕ) → j < length out → slice_index out j ≡ joined_byte images spots j) → AreRescued images failed found l x n (λ y. false) out
  rescued_run x n spots out so first size bytes = record {
    size = size;
    each = λ i lt. go i (nth_sector out i) (sources_in_order found l x) first (sources_in_order found l (x + i)) (sources_along found l x n so i lt)
        (joined_whole images (map (behind i) spots) (nth_sector out i) (length-take-le 512 (drop (512 * i) out) (omega (arith, size, lt, length-drop (512 * i) out)))
        (λ j lj. get_or-take 512 (drop (512 * i) out) j 0 lj ∙ (get_or-drop (512 * i) out j 0 ∙ (bytes (512 * i + j) (omega (arith, size, lt, lj)) ∙ sym (joined_behind images i j spots)))));
  }
    where
      go : (i : ℕ) (part : List ℕ) (sources : List (List Spot)) → slice_get sources 0 ≡ Some spots → (moved : List (List Spot)) → moved ≡ map (map (behind i)) sources → part ≡ joined_sector images (map (behind i) spots)
          → IsRescued images failed moved part false
      go i part [] is moved e here = absurd cc
      go i part (source ∷ more) is moved e here =
          let same : source ≡ spots = cc in
          subst (λ (s : List (List Spot)). IsRescued images failed s part false) (sym e)
          (inl (here ∙ ap (λ (s : List Spot). joined_sector images (map (behind i) s)) (sym same), refl))

  -- a run that no source gives
  pub lost_run : (x n : ℕ) (out : List ℕ) → AreTogether l x n → sources_in_order found l x ≡ [] → length out ≡ 512 * n → ((j : ℕ) → j < length out → slice_index out j ≡ 0) → AreRescued images failed found l x n (λ y. true) out
  lost_run x n out so none size bytes = record {
    size = size;
    each = λ i lt. subst (λ (s : List (List Spot)). IsRescued images failed s (nth_sector out i) true) (sym (sources_along found l x n so i lt ∙ ap (map (map (behind i))) none)) (
      zeros_whole (nth_sector out i) 512 (length-take-le 512 (drop (512 * i) out) (omega (arith, size, lt, length-drop (512 * i) out)))
          (λ j lj. get_or-take 512 (drop (512 * i) out) j 0 lj ∙ (get_or-drop (512 * i) out j 0 ∙ bytes (512 * i + j) (omega (arith, size, lt, lj)))),
      refl,
    );
  }

  -- a run is said as a front of the buffer
  pub run_whole : (x n size : ℕ) (lost : ℕ → Bool) (out : List ℕ) → size ≡ 512 * n → length out ≡ size → AreRescued images failed found l x n lost out → AreRescued images failed found l x (size / 512) lost (take (512 * (size / 512)) out)
  run_whole x n size lost out is long all =
      let count : size / 512 ≡ n = omega (arith, is) in
      let whole : take (512 * (size / 512)) out ≡ out = ap (λ (k : ℕ). take k out) (let e : 512 * (size / 512) ≡ length out = omega (arith, is, long) in e) ∙ take-length out in
      subst (λ (t : List ℕ). AreRescued images failed found l x (size / 512) lost t) (sym whole) (subst (λ (k : ℕ). AreRescued images failed found l x k lost out) (sym count) all)

  pub first_rescued : (x : ℕ) (lost : Bool) (out : List ℕ) → 512 ≤ length out → IsRescued images failed (sources_in_order found l x) (nth_sector out 0) lost → AreRescued images failed found l x 1 (λ y. lost) (take (512 * 1) out)
  first_rescued x lost out room is = rescued_one x (λ y. lost) (take 512 out) (length-take-le 512 out room) is

-- one sector more, behind those so far
pub next_rescued : (images : List (List ℕ)) (few since all : List DiskRange) (found : Found) (l : Layout) (x c : ℕ) (lost : Bool) (before out : List ℕ) → Covers few all → Covers since all
    → AreRescued images few found l x c (λ y. lost) (take (512 * c) before) → take (512 * c) out ≡ take (512 * c) before → 512 * c + 512 ≤ length out
    → IsRescued images since (sources_in_order found l (x + c)) (nth_sector out c) lost → AreRescued images all found l x (c + 1) (λ y. lost) (take (512 * (c + 1)) out)
next_rescued images few since all found l x c lost before out one two so front room is =
    subst (λ (t : List ℕ). AreRescued images all found l x (c + 1) (λ y. lost) t) (sym (take_next out c ∙ ap (λ (t : List ℕ). t ++ nth_sector out c) front))
    (rescued_both images all found l x c 1 (λ y. lost) (take (512 * c) before) (nth_sector out c)
    (are_rescued_covered images few all found l x c (λ y. lost) (take (512 * c) before) one so)
    (rescued_one images all found l (x + c) (λ y. lost) (nth_sector out c) (length-take-le 512 (drop (512 * c) out) (omega (arith, room, length-drop (512 * c) out)))
    (rescued_covered images since all (sources_in_order found l (x + c)) (nth_sector out c) lost two is)))

-- ---- the cause of some sectors

pub causes_covered : (found : Found) (l : Layout) (few all : List DiskRange) (first count : ℕ) (o : Option Cause) → Covers few all → IfSome o (HaveCause found l few first count) → IfSome o (HaveCause found l all first count)
causes_covered found l few all first count None covers is = tt
causes_covered found l few all first count (Some cause) covers is = λ i lt. cause_covered found l few all (first + i) cause covers (is i lt)

pub cause_one : (found : Found) (l : Layout) (failed : List DiskRange) (x : ℕ) (o : Option Cause) → IfSome o (IsCause found l failed x) → IfSome o (HaveCause found l failed x 1)
cause_one found l failed x None is = tt
cause_one found l failed x (Some cause) is = λ i lt. (let here : x ≡ x + i = omega (arith, lt) in subst (λ (y : ℕ). IsCause found l failed y cause) here is)

pub cause_next : (found : Found) (l : Layout) (few since all : List DiskRange) (x c : ℕ) (o : Option Cause) → Covers few all → Covers since all → IfSome o (HaveCause found l few x c) → IfSome o (IsCause found l since (x + c)) → IfSome o (HaveCause found l all x (c + 1))
cause_next found l few since all x c None one two so is = tt
cause_next found l few since all x c (Some cause) one two so is = λ i lt. elim (cases_lt i c) [
  | inl low ↦ cause_covered found l few all (x + i) cause one (so i low)
  | inr high ↦ (let here : x + c ≡ x + i = omega (arith, lt, high) in cause_covered found l since all (x + i) cause two (subst (λ (y : ℕ). IsCause found l since y cause) here is))
]

-- ---- the first of all sources

pub first_part : (sources : List (List Spot)) (spots : List Spot) → slice_get sources 0 ≡ Some spots → Contains sources spots
first_part [] spots is = absurd cc
first_part (source ∷ more) spots is = (let same : source ≡ spots = cc in subst (λ (s : List Spot). Contains (source ∷ more) s) same (contains_first source more))

pub none_first : (sources : List (List Spot)) → slice_get sources 0 ≡ None → sources ≡ []
none_first [] is = refl
none_first (source ∷ more) is = absurd cc

pub front_part : (part post : List ℕ) (k : ℕ) → length part ≡ k → take k (part ++ post) ≡ part
front_part part post k size = ap (λ (n : ℕ). take n (part ++ post)) (sym size) ∙ take-append_seam part post
