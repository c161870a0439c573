-- What is said and told of sectors of a volume, piece by piece.
use Rattle.std.proofs.Common.{◌≡◌, inl, inr, ℕ, ◌+◌, ◌-◌, ◌*◌, ◌<◌, ◌≤◌, Bool, List, [], ◌∷◌, ◌++◌, length, take, drop, refl, sym, ◌∙◌, ap, subst, arith, append_assoc, Option, Some, None, is_some, IfSome, Contains}
use Rattle.std.specs.Option.{option_to_list}
use Rattle.std.proofs.lemmas.Bool.{cases_lt}
use Rattle.std.proofs.lemmas.List.{append-nil, length-append, length-drop, drop-append-le, take-append-le, length-take-le}
use Rattle.std.proofs.lemmas.List.Elements.{Contains-append_left, Contains-append_right}
use Rattle.std.proofs.Math.Seq.{drop-append-add, drop-append_seam, take-append-add, take-append_seam, take-length}
use Rattle.ldm_host.specs.Moves.{Grows}
use Rattle.ldm_host.specs.declared.host.DiskRange.{DiskRange}
use Rattle.ldm_places.specs.Layouts.{Layout}
use Rattle.ldm_copy.specs.declared.found.Found.{Found}
use Rattle.ldm_dump.specs.declared.spots.Spot.{Spot}
use Rattle.ldm_rescue.specs.declared.reading.Cause.{Cause}
use Rattle.ldm_rescue.specs.declared.reading.Cause.TheVariants.{Absent, Unread}
use Rattle.ldm_rescue.specs.declared.losses.Loss.{Loss}
use Rattle.ldm_rescue.specs.declared.losses.Losing.{Losing}
use Rattle.ldm_rescue.specs.Rescued.{IsMissed, IsRescued, AreRescued, nth_sector, sources_in_order, IsCause, HaveCause}
use Rattle.ldm_rescue.specs.Losses.{cause_at, is_lost_at, AreRanges, Comes, lost_among}
use Rattle.ldm_rescue.specs.Told.{AreTold, SoFar}
use Rattle.ldm_rescue.proofs.LossLaws.{Grown, grows, opens_then}

-- ---- where more reads failed

unread_more : (failed more : List DiskRange) (source : List Spot) (spot : Spot) → ((r : DiskRange) → Contains failed r → Contains more r) → IsMissed failed source spot → IsMissed more source spot
unread_more failed more source spot wider is = record { part = is.part; missed = wider _ is.missed }

pub rescued_more : (images : List (List ℕ)) (failed more : List DiskRange) (sources : List (List Spot)) (bytes : List ℕ) (lost : Bool) → ((r : DiskRange) → Contains failed r → Contains more r)
    → IsRescued images failed sources bytes lost → IsRescued images more sources bytes lost
rescued_more images failed more [] bytes lost wider is = is
rescued_more images failed more (source ∷ rest) bytes lost wider (inl is) = inl is
rescued_more images failed more (source ∷ rest) bytes lost wider (inr is) =
    inr ((is.0.0, unread_more failed more source is.0.0 wider is.0.1), rescued_more images failed more rest bytes lost wider is.1)

pub cause_more : (found : Found) (l : Layout) (failed more : List DiskRange) (x : ℕ) (cause : Cause) → ((r : DiskRange) → Contains failed r → Contains more r) → IsCause found l failed x cause → IsCause found l more x cause
cause_more found l failed more x (Absent disk) wider is = is
cause_more found l failed more x (Unread image) wider is =
    record { before = is.before; source = is.source; last = is.last; spot = is.spot; unread = unread_more failed more is.source is.spot wider is.unread; on = is.on }

if_some_more : {X : Type 0} (P Q : X → Type 0) (o : Option X) → ((x : X) → P x → Q x) → IfSome o P → IfSome o Q
if_some_more P Q None turn is = is
if_some_more P Q (Some x) turn is = turn x is

pub told_wider : (images : List (List ℕ)) (failed more : List DiskRange) (found : Found) (l : Layout) (first count : ℕ) (bytes : List ℕ) (losses : List Loss) → ((r : DiskRange) → Contains failed r → Contains more r)
    → AreTold images failed found l first count bytes losses → AreTold images more found l first count bytes losses
told_wider images failed more found l first count bytes losses wider are = record {
  rescued = record {
    size = are.rescued.size;
    each = λ i lt. rescued_more images failed more (sources_in_order found l (first + i)) (nth_sector bytes i) (is_lost_at losses (first + i)) wider (are.rescued.each i lt);
  };
  causes = λ i lt. if_some_more (IsCause found l failed (first + i)) (IsCause found l more (first + i)) (cause_at losses (first + i)) (λ cause is. cause_more found l failed more (first + i) cause wider is) (are.causes i lt);
}

-- the reads that failed since a state are those until a moment and those since then
pub since_then : (a b c : List DiskRange) → Grows a b → Grows b c → drop (length a) c ≡ drop (length a) b ++ drop (length b) c
since_then a b c first next =
    let one : drop (length a) b ≡ first.0 = ap (λ (l : List DiskRange). drop (length a) l) first.1 ∙ drop-append_seam a first.0 in
    let two : drop (length b) c ≡ next.0 = ap (λ (l : List DiskRange). drop (length b) l) next.1 ∙ drop-append_seam b next.0 in
    let whole : c ≡ a ++ (first.0 ++ next.0) = next.1 ∙ (ap (λ (l : List DiskRange). l ++ next.0) first.1 ∙ append_assoc a first.0 next.0) in
    ap (λ (l : List DiskRange). drop (length a) l) whole
    ∙ (drop-append_seam a (first.0 ++ next.0)
    ∙ (ap (λ (l : List DiskRange). l ++ next.0) (sym one)
    ∙ ap (λ (l : List DiskRange). drop (length a) b ++ l) (sym two)))

-- ---- sectors of a text

nth_front : (a b : List ℕ) (n i : ℕ) → length a ≡ 512 * n → i < n → nth_sector (a ++ b) i ≡ nth_sector a i
nth_front a b n i size lt =
    ap (λ (l : List ℕ). take 512 l) (drop-append-le (512 * i) a b (omega (arith, size, lt)))
    ∙ take-append-le 512 (drop (512 * i) a) b (omega (arith, size, lt, length-drop (512 * i) a))

nth_behind : (a b : List ℕ) (n i : ℕ) → length a ≡ 512 * n → nth_sector (a ++ b) (n + i) ≡ nth_sector b i
nth_behind a b n i size =
    let at : 512 * (n + i) ≡ length a + 512 * i = omega (arith, size) in
    ap (λ (k : ℕ). take 512 (drop k (a ++ b))) at ∙ ap (λ (l : List ℕ). take 512 l) (drop-append-add a b (512 * i))

-- ---- sectors more

said_as : (images : List (List ℕ)) (failed : List DiskRange) (sources : List (List Spot)) (bytes other : List ℕ) (lost gone : Bool) → other ≡ bytes → gone ≡ lost → IsRescued images failed sources bytes lost
    → IsRescued images failed sources other gone
said_as images failed sources bytes other lost gone same alike is =
    subst (λ (b : List ℕ). IsRescued images failed sources b gone) (sym same) (subst (λ (b : Bool). IsRescued images failed sources bytes b) (sym alike) is)

module _ (images : List (List ℕ)) (failed more : List DiskRange) (found : Found) (l : Layout) (first n count : ℕ) (bytes piece : List ℕ) (old new : List Loss) (flag : Option Cause) where
  left : (r : DiskRange) → Contains failed r → Contains (failed ++ more) r
  left r has = Contains-append_left failed more r has

  right : (r : DiskRange) → Contains more r → Contains (failed ++ more) r
  right r has = Contains-append_right failed more r has

  pub told_more : AreTold images failed found l first n bytes old → AreRescued images more found l (first + n) count (λ x. is_some flag) piece → IfSome flag (HaveCause found l more (first + n) count)
      → Grown first (first + n) count flag old new → AreTold images (failed ++ more) found l first (n + count) (bytes ++ piece) new
  told_more are next cause grown = record {
    rescued = record {
      size = omega (arith, length-append bytes piece, are.rescued.size, next.size);
      each = λ i lt. elim (cases_lt i n) [
        | inl low ↦ each_front i low
        | inr high ↦ each_behind i high lt
      ];
    };
    causes = λ i lt. elim (cases_lt i n) [
      | inl low ↦ subst (λ (o : Option Cause). IfSome o (IsCause found l (failed ++ more) (first + i))) (sym (grown.kept (first + i) (omega (arith, low))))
          (if_some_more (IsCause found l failed (first + i)) (IsCause found l (failed ++ more) (first + i)) (cause_at old (first + i)) (λ c is. cause_more found l failed (failed ++ more) (first + i) c left is) (are.causes i low))
      | inr high ↦ subst (λ (o : Option Cause). IfSome o (IsCause found l (failed ++ more) (first + i))) (sym (grown.here (first + i) (omega (arith, high)) (omega (arith, lt))))
          (if_some_more (HaveCause found l more (first + n) count) (IsCause found l (failed ++ more) (first + i)) flag (λ c have. cause_behind i high lt c have) cause)
    ];
  }
    where
      each_front : (i : ℕ) → i < n → IsRescued images (failed ++ more) (sources_in_order found l (first + i)) (nth_sector (bytes ++ piece) i) (is_lost_at new (first + i))
      each_front i low =
          said_as images (failed ++ more) (sources_in_order found l (first + i)) (nth_sector bytes i) (nth_sector (bytes ++ piece) i) (is_lost_at old (first + i)) (is_lost_at new (first + i))
          (nth_front bytes piece n i are.rescued.size low)
          (ap (λ (o : Option Cause). is_some o) (grown.kept (first + i) (omega (arith, low))))
          (rescued_more images failed (failed ++ more) (sources_in_order found l (first + i)) (nth_sector bytes i) (is_lost_at old (first + i)) left (are.rescued.each i low))

      each_behind : (i : ℕ) → n ≤ i → i < n + count → IsRescued images (failed ++ more) (sources_in_order found l (first + i)) (nth_sector (bytes ++ piece) i) (is_lost_at new (first + i))
      each_behind i high lt =
          let j = i - n in
          let at : n + j ≡ i = omega (arith, high) in
          let x : first + n + j ≡ first + i = omega (arith, high) in
          let nth : nth_sector (bytes ++ piece) i ≡ nth_sector piece j = ap (λ (k : ℕ). nth_sector (bytes ++ piece) k) (sym at) ∙ nth_behind bytes piece n j are.rescued.size in
          said_as images (failed ++ more) (sources_in_order found l (first + i)) (nth_sector piece j) (nth_sector (bytes ++ piece) i) (is_some flag) (is_lost_at new (first + i)) nth
          (ap (λ (o : Option Cause). is_some o) (grown.here (first + i) (omega (arith, high)) (omega (arith, lt))))
          (subst (λ (y : ℕ). IsRescued images (failed ++ more) (sources_in_order found l y) (nth_sector piece j) (is_some flag)) x
          (rescued_more images more (failed ++ more) (sources_in_order found l (first + n + j)) (nth_sector piece j) (is_some flag) right (next.each j (omega (arith, high, lt)))))

      cause_behind : (i : ℕ) → n ≤ i → i < n + count → (c : Cause) → HaveCause found l more (first + n) count c → IsCause found l (failed ++ more) (first + i) c
      cause_behind i high lt c have =
          let j = i - n in
          let x : first + n + j ≡ first + i = omega (arith, high) in
          subst (λ (y : ℕ). IsCause found l (failed ++ more) y c) x (cause_more found l more (failed ++ more) (first + n + j) c right (have j (omega (arith, high, lt))))

-- ---- how far a rescue has come

pub so_far_more : (tells hears : Type 0) (images : List (List ℕ)) (failed more : List DiskRange) (before after then : List Loss) (losing next : Losing) (found : Found) (l : Layout) (first n x count : ℕ) (bytes piece : List ℕ) (flag : Option Cause) (told : List Loss)
    → x ≡ first + n → 0 < count → SoFar tells hears images failed before after losing found l first n bytes
    → (tells → AreRescued images more found l x count (λ x. is_some flag) piece) → (tells → IfSome flag (HaveCause found l more x count))
    → Comes flag x count losing.last told next.last → next.lost ≡ losing.lost + lost_among flag count → (hears → then ≡ after ++ told)
    → SoFar tells hears images (failed ++ more) before then next found l first (n + count) (bytes ++ piece)
so_far_more tells hears images failed more before after then losing next found l first n x count bytes piece flag told at some so are cause comes lost heard = record {
  told = so.told ++ told;
  are = λ t. told_more images failed more found l first n count bytes piece (so.told ++ option_to_list losing.last) ((so.told ++ told) ++ option_to_list next.last) flag (so.are t)
      (subst (λ (y : ℕ). AreRescued images more found l y count (λ x. is_some flag) piece) at (are t))
      (subst (λ (y : ℕ). IfSome flag (HaveCause found l more y count)) at (cause t)) grown;
  ranges = (let e : first + n + count ≡ first + (n + count) = omega arith in subst (λ (y : ℕ). AreRanges first y ((so.told ++ told) ++ option_to_list next.last)) e grown.ranges);
  heard = λ h. heard h ∙ (ap (λ (t : List Loss). t ++ told) (so.heard h) ∙ append_assoc before so.told told);
  opens = λ none. opens_then flag x count so.told told losing.last next.last so.opens comes none;
  lost = lost ∙ (ap (λ (k : ℕ). k + lost_among flag count) so.lost ∙ sym grown.count);
}
  where
    grown : Grown first (first + n) count flag (so.told ++ option_to_list losing.last) ((so.told ++ told) ++ option_to_list next.last)
    grown = grows first (first + n) count flag so.told told losing.last next.last so.opens so.ranges some (subst (λ (y : ℕ). Comes flag y count losing.last told next.last) at comes)

-- the last state, said otherwise
pub so_far_as : (tells hears : Type 0) (images : List (List ℕ)) (failed other : List DiskRange) (before after : List Loss) (losing : Losing) (found : Found) (l : Layout) (first n m : ℕ) (bytes text : List ℕ)
    → other ≡ failed → m ≡ n → text ≡ bytes → SoFar tells hears images failed before after losing found l first n bytes → SoFar tells hears images other before after losing found l first m text
so_far_as tells hears images failed other before after losing found l first n m bytes text same count is so =
    subst (λ (f : List DiskRange). SoFar tells hears images f before after losing found l first m text) (sym same)
    (subst (λ (k : ℕ). SoFar tells hears images failed before after losing found l first k text) (sym count)
    (subst (λ (b : List ℕ). SoFar tells hears images failed before after losing found l first n b) (sym is) so))

-- what stands in a buffer behind a step
pub step_bytes : (c n : ℕ) (out part post : List ℕ) → 512 * c ≤ length out → 512 * n ≤ length part
    → take (512 * (c + n)) (take (512 * c) out ++ (part ++ post)) ≡ take (512 * c) out ++ take (512 * n) part
step_bytes c n out part post long enough =
    let front : List ℕ = take (512 * c) out in
    let split : 512 * (c + n) ≡ length front + 512 * n = omega (arith, length-take-le (512 * c) out long) in
    ap (λ (m : ℕ). take m (front ++ (part ++ post))) split
    ∙ (take-append-add front (part ++ post) (512 * n)
    ∙ ap (λ (t : List ℕ). front ++ t) (take-append-le (512 * n) part post enough))

-- a buffer that is full
pub full_bytes : (n m : ℕ) (out : List ℕ) → length out ≡ 512 * n → m ≡ n → take (512 * m) out ≡ out
full_bytes n m out size is =
    let same : 512 * m ≡ length out = omega (arith, size, is) in ap (λ (k : ℕ). take k out) same ∙ take-length out

-- no sector was said
pub nothing_yet : (tells hears : Type 0) (images : List (List ℕ)) (account : List DiskRange) (losses : List Loss) (found : Found) (l : Layout) (first : ℕ)
    → SoFar tells hears images (drop (length account) account) losses losses (record { last = None; lost = 0 }) found l first 0 []
nothing_yet tells hears images account losses found l first = record {
  told = [];
  are = λ t. record { rescued = record { size = refl; each = λ i lt. absurd (omega (arith, lt)) }; causes = λ i lt. absurd (omega (arith, lt)) };
  ranges = omega arith;
  heard = λ h. sym (append-nil losses);
  opens = λ none. refl;
  lost = refl;
}

-- an account that stays the same adds nothing
pub since_same : (a b c : List DiskRange) → c ≡ b → drop (length a) c ≡ drop (length a) b
since_same a b c same = ap (λ (l : List DiskRange). drop (length a) l) same

-- what is written to the front of a buffer
pub front_bytes : (n : ℕ) (part rest : List ℕ) → length part ≡ 512 * n → take (512 * n) (part ++ rest) ≡ part
front_bytes n part rest size = ap (λ (k : ℕ). take k (part ++ rest)) (sym size) ∙ take-append_seam part rest

-- images that are the same
pub at_content : (tells hears : Type 0) (images now : List (List ℕ)) (failed : List DiskRange) (before after : List Loss) (losing : Losing) (found : Found) (l : Layout) (first n : ℕ) (bytes : List ℕ)
    → now ≡ images → SoFar tells hears now failed before after losing found l first n bytes → SoFar tells hears images failed before after losing found l first n bytes
at_content tells hears images now failed before after losing found l first n bytes is so = subst (λ (i : List (List ℕ)). SoFar tells hears i failed before after losing found l first n bytes) is so

pub told_at : (images now : List (List ℕ)) (failed other : List DiskRange) (found : Found) (l : Layout) (first n : ℕ) (bytes : List ℕ) (losses : List Loss)
    → now ≡ images → other ≡ failed → AreTold now failed found l first n bytes losses → AreTold images other found l first n bytes losses
told_at images now failed other found l first n bytes losses is same are =
    subst (λ (f : List DiskRange). AreTold images f found l first n bytes losses) (sym same) (subst (λ (i : List (List ℕ)). AreTold i failed found l first n bytes losses) is are)
