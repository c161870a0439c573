-- How relations between states of a host follow one another.
use Rattle.std.proofs.Common.{[], ◌≡◌, ◌≢◌, inl, inr, ⊎_elim, ◌↔◌, ℕ, ◌+◌, ◌<◌, ◌≤◌, List, ◌∷◌, ◌++◌, length, set, slice_index, refl, sym, ◌∙◌, ap, subst, arith, append_assoc}
use Rattle.std.proofs.Math.Nat.{suc-ne-zero}
use Rattle.std.proofs.lemmas.List.{get_or-set_same, get_or-set_other, length-set, append-nil, append_cancel_left}
use Rattle.std.proofs.lemmas.Bool.{cases_eq}
use Rattle.ldm_host.specs.Seen.{Seen, Leaves, image}
use Rattle.ldm_host.specs.declared.host.DiskRange.{DiskRange}
use Rattle.ldm_host.specs.Moves.{Rose, DiskFailed, Begins, Grows, Torn, TornAt, Later, Quiet, Still, Looks, Works, AtEachMoment, Writes, Syncs, Settles}

pub begins_itself : (x : List ℕ) → Begins x x
begins_itself x = ([], sym (append-nil x))

-- two texts of which each begins with the other
pub begins_both : (x y : List ℕ) → Begins x y → Begins y x → y ≡ x
begins_both x y one two = one.1 ∙ ap (λ (l : List ℕ). x ++ l) (empty one.0 two.0 none) ∙ append-nil x
  where
    none : one.0 ++ two.0 ≡ []
    none = append_cancel_left x (one.0 ++ two.0) [] (sym (append_assoc x one.0 two.0) ∙ sym (ap (λ (l : List ℕ). l ++ two.0) one.1) ∙ sym two.1 ∙ sym (append-nil x))

    empty : (a b : List ℕ) → a ++ b ≡ [] → a ≡ []
    empty [] b is = refl
    empty (n ∷ a) b is = absurd (suc-ne-zero (length (a ++ b)) (ap length is))

pub rose_sooner : (a b c : ℕ) → a ≤ b → Rose b c → Rose a c
rose_sooner a b c le (inl less) = inl (omega arith)
rose_sooner a b c le (inr last) = inr last

pub begins_trans : (x y z : List ℕ) → Begins x y → Begins y z → Begins x z
begins_trans x y z first second = (first.0 ++ second.0, second.1 ∙ ap (λ (l : List ℕ). l ++ second.0) first.1 ∙ append_assoc x first.0 second.0)

pub grows_itself : (x : List DiskRange) → Grows x x
grows_itself x = ([], sym (append-nil x))

pub grows_trans : (x y z : List DiskRange) → Grows x y → Grows y z → Grows x z
grows_trans x y z first second = (first.0 ++ second.0, second.1 ∙ ap (λ (l : List DiskRange). l ++ second.0) first.1 ∙ append_assoc x first.0 second.0)

pub torn_itself : (at n : ℕ) (x : List ℕ) → Torn at n x x
torn_itself at n x = record { size = refl; outside = λ k out. refl }

pub torn_trans : (at n : ℕ) (x y z : List ℕ) → Torn at n x y → Torn at n y z → Torn at n x z
torn_trans at n x y z first second = record { size = second.size ∙ first.size; outside = λ k out. second.outside k out ∙ first.outside k out }

pub torn_at_itself : (disk at n : ℕ) (x : List (List ℕ)) → TornAt disk at n x x
torn_at_itself disk at n x = record { count = refl; here = torn_itself at n (image x disk); others = λ other ne. refl }

pub torn_at_trans : (disk at n : ℕ) (x y z : List (List ℕ)) → TornAt disk at n x y → TornAt disk at n y z → TornAt disk at n x z
torn_at_trans disk at n x y z first second = record {
  count = second.count ∙ first.count;
  here = torn_trans at n (image x disk) (image y disk) (image z disk) first.here second.here;
  others = λ other ne. second.others other ne ∙ first.others other ne;
}

pub iff_trans : (P Q R : Type 0) → Q ↔ P → R ↔ Q → R ↔ P
iff_trans P Q R first second = (λ r. first.0 (second.0 r), λ p. second.1 (first.1 p))

pub quiet_trans : (a b c : Seen) → Quiet a b → Quiet b c → Quiet a c
quiet_trans a b c first second = record { said = second.said ∙ first.said; heard = second.heard ∙ first.heard; input = second.input ∙ first.input }

pub later_trans : (a b c : Seen) → Later a b → Later b c → Later a c
later_trans a b c first second = record {
  sizes = second.sizes ∙ first.sizes;
  disk_faults = omega (arith, first.disk_faults, second.disk_faults);
  talk_faults = omega (arith, first.talk_faults, second.talk_faults);
  failed = grows_trans a.failed b.failed c.failed first.failed second.failed;
  said = begins_trans a.said b.said c.said first.said second.said;
  clock = omega (arith, first.clock, second.clock);
  keeps = λ t images said le left. second.keeps t images said (omega (arith, le, first.clock)) (first.keeps t images said le left);
  adds = λ t images said le left. ⊎_elim
      (λ sooner. second.keeps t images said (omega (arith, le, first.clock)) (first.adds t images said le sooner))
      (λ later. second.adds t images said (omega (arith, le, first.clock)) later)
      (second.nothing_else a.clock images said first.clock left);
  nothing_else = λ t images said le left. ⊎_elim
      (λ sooner. ⊎_elim (λ old. inl old) (λ moment. inr (second.keeps a.clock images said first.clock moment)) (first.nothing_else t images said le sooner))
      (λ later. inr (second.adds a.clock images said first.clock later))
      (second.nothing_else t images said (omega (arith, le, first.clock)) left);
}

-- one call and then another have moments of which P holds
pub moments_trans : (a b c : Seen) (P : List (List ℕ) → List ℕ → Type 0) → Later a b → Later b c
    → AtEachMoment a b P → AtEachMoment b c P → AtEachMoment a c P
moments_trans a b c P first second before after images said left =
    ⊎_elim (λ sooner. before images said sooner) (λ later. after images said later) (second.nothing_else a.clock images said first.clock left)

pub leaves_still : (a b : Seen) (images : List (List ℕ)) → Still a b → Leaves b images → Leaves a images
leaves_still a b images still left = record {
  one_each = left.one_each ∙ ap length still.later.sizes;
  each = λ disk lt. (still.left disk (image images disk)).0 (left.each disk (subst (λ (l : List ℕ). disk < length l) (sym still.later.sizes) lt));
}

pub still_trans : (a b c : Seen) → Still a b → Still b c → Still a c
still_trans a b c first second = record {
  later = later_trans a b c first.later second.later;
  content = second.content ∙ first.content;
  wrote = second.wrote ∙ first.wrote;
  left = λ disk x. iff_trans (a.may_leave disk x) (b.may_leave disk x) (c.may_leave disk x) (first.left disk x) (second.left disk x);
  moments = moments_trans a b c (λ images said. Leaves a images × Begins a.said said × Begins said c.said) first.later second.later
      (λ images said left. let m = first.moments images said left in (m.0, m.1, begins_trans said b.said c.said m.2 second.later.said))
      (λ images said left. let m = second.moments images said left in (leaves_still a b images first m.0, begins_trans a.said b.said said first.later.said m.1, m.2));
}

-- two calls that look make one, which fails only where the second does
pub looks_then : {a b c : Seen} {P Q R : Type 0} → Looks a b P → Looks b c Q → (R → Q) → Looks a c R
looks_then {a} {b} {c} first second fails = record {
  still = still_trans a b c first.still second.still;
  quiet = quiet_trans a b c first.quiet second.quiet;
  cause = λ failed. rose_sooner a.disk_faults b.disk_faults c.disk_faults first.still.later.disk_faults (second.cause (fails failed));
}

-- what fails only where a call that looks does
pub looks_as : {a b : Seen} {P Q : Type 0} → Looks a b P → (Q → P) → Looks a b Q
looks_as looks fails = record { still = looks.still; quiet = looks.quiet; cause = λ failed. looks.cause (fails failed) }

pub works_then : {a b c : Seen} {P Q R : Type 0} → Works a b P → Works b c Q → (R → Q) → Works a c R
works_then {a} {b} {c} first second fails = record {
  later = later_trans a b c first.later second.later;
  quiet = quiet_trans a b c first.quiet second.quiet;
  cause = λ failed. rose_sooner a.disk_faults b.disk_faults c.disk_faults first.later.disk_faults (second.cause (fails failed));
}

pub works_as : {a b : Seen} {P Q : Type 0} → Works a b P → (Q → P) → Works a b Q
works_as works fails = record { later = works.later; quiet = works.quiet; cause = λ failed. works.cause (fails failed) }

-- a call that looks works on the disks
pub looks_works : {a b : Seen} {P : Type 0} → Looks a b P → Works a b P
looks_works looks = record { later = looks.still.later; quiet = looks.quiet; cause = looks.cause }

-- a host at one moment, by the two laws on the present
module _ (a : Seen)
    (counts : (t : ℕ) (images : List (List ℕ)) → t ≤ a.clock → Leaves a images → a.left_since t images a.said)
    (only : AtEachMoment a a (λ images said. Leaves a images × (said ≡ a.said))) where
  pub later_itself : Later a a
  later_itself = record {
    sizes = refl;
    disk_faults = omega arith;
    talk_faults = omega arith;
    failed = grows_itself a.failed;
    said = begins_itself a.said;
    clock = omega arith;
    keeps = λ t images said le left. left;
    adds = λ t images said le left. let now = only images said left in subst (λ (l : List ℕ). a.left_since t images l) (sym now.1) (counts t images le now.0);
    nothing_else = λ t images said le left. inl left;
  }

  pub still_itself : Still a a
  still_itself = record {
    later = later_itself;
    content = refl;
    wrote = refl;
    left = λ disk c. (λ l. l, λ l. l);
    moments = λ images said left. let now = only images said left in (now.0, subst (λ (l : List ℕ). Begins a.said l) (sym now.1) (begins_itself a.said), subst (λ (l : List ℕ). Begins l a.said) (sym now.1) (begins_itself a.said));
  }

  pub looks_itself : Looks a a ⊥
  looks_itself = record { still = still_itself; quiet = record { said = refl; heard = refl; input = refl }; cause = λ failed. absurd failed }

  pub works_itself : Works a a ⊥
  works_itself = looks_works looks_itself

-- a call that changes no disk and nothing of the talk is a sync that did nothing
pub still_syncs : (disk : ℕ) (a b : Seen) → Still a b → Quiet a b → Syncs disk a b
still_syncs disk a b still quiet = record {
  later = still.later;
  quiet = quiet;
  content = still.content;
  wrote = still.wrote;
  left = λ x left. (still.left disk x).0 left;
  left_others = λ other x ne. still.left other x;
  moments = λ images said left. let m = still.moments images said left in (m.0, begins_both a.said said m.1 (subst (λ (l : List ℕ). Begins said l) quiet.said m.2));
}

-- images that could be left before one disk was changed, from images that could be left after it
pub before_from : (Alike : List ℕ → List ℕ → Type 0) (disk : ℕ) (a b : Seen) → disk < length a.sizes → b.sizes ≡ a.sizes
    → ((c : List ℕ) → b.may_leave disk c → (x : List ℕ) × a.may_leave disk x × Alike x c)
    → ((other : ℕ) (c : List ℕ) → other ≢ disk → b.may_leave other c → a.may_leave other c)
    → (images : List (List ℕ)) → Leaves b images → (before : List (List ℕ)) × Leaves a before × (length images ≡ length before)
    × Alike (image before disk) (image images disk) × ((other : ℕ) → other ≢ disk → image images other ≡ image before other)
before_from Alike disk a b in_range sizes here others images left = (
  before,
  record { one_each = length-set images disk old.0 ∙ count; each = each },
  sym (length-set images disk old.0),
  subst (λ (c : List ℕ). Alike c (image images disk)) (sym same) old.2,
  λ other ne. sym (other_same other ne),
)
  where
    count : length images ≡ length a.sizes
    count = left.one_each ∙ ap length sizes

    at_b : (other : ℕ) → other < length a.sizes → other < length b.sizes
    at_b other lt = subst (λ (l : List ℕ). other < length l) (sym sizes) lt

    old : (x : List ℕ) × a.may_leave disk x × Alike x (image images disk)
    old = here (image images disk) (left.each disk (at_b disk in_range))

    before : List (List ℕ)
    before = set images disk old.0

    same : image before disk ≡ old.0
    same = get_or-set_same images disk old.0 [] (omega (arith, count, in_range))

    other_same : (other : ℕ) → other ≢ disk → image before other ≡ image images other
    other_same other ne = get_or-set_other images disk other old.0 [] ne

    each : (other : ℕ) → other < length a.sizes → a.may_leave other (image before other)
    each other lt = elim (cases_eq other disk) [
      | inl is ↦ subst (λ (d : ℕ). a.may_leave d (image before d)) (sym is) (subst (λ (c : List ℕ). a.may_leave disk c) (sym same) old.1)
      | inr ne ↦ subst (λ (c : List ℕ). a.may_leave other c) (sym (other_same other ne)) (others other (image images other) ne (left.each other (at_b other lt)))
    ]

-- where the disk was written
pub torn_from : (disk at n : ℕ) (a b : Seen) → disk < length a.sizes → b.sizes ≡ a.sizes
    → ((c : List ℕ) → b.may_leave disk c → (x : List ℕ) × a.may_leave disk x × Torn at n x c)
    → ((other : ℕ) (c : List ℕ) → other ≢ disk → b.may_leave other c → a.may_leave other c)
    → (images : List (List ℕ)) → Leaves b images → (before : List (List ℕ)) × Leaves a before × TornAt disk at n before images
torn_from disk at n a b in_range sizes here others images left =
    let from = before_from (Torn at n) disk a b in_range sizes here others images left in
    (from.0, from.1, record { count = from.2; here = from.3; others = from.4 })

-- a write, and then a sync of that disk
pub writes_syncs : (disk at n : ℕ) (a b c : Seen) → disk < length a.sizes → Writes disk at n a b → Syncs disk b c → Writes disk at n a c
writes_syncs disk at n a b c in_range first second = record {
  later = later_trans a b c first.later second.later;
  quiet = quiet_trans a b c first.quiet second.quiet;
  content = subst (λ (l : List (List ℕ)). TornAt disk at n a.content l) (sym second.content) first.content;
  wrote = subst (λ (l : List ℕ). slice_index l disk ≤ slice_index a.wrote disk + n) (sym second.wrote) first.wrote;
  wrote_others = λ other ne. ap (λ (l : List ℕ). slice_index l other) second.wrote ∙ first.wrote_others other ne;
  left = λ x left. first.left x (second.left x left);
  left_others = λ other x ne. iff_trans (a.may_leave other x) (b.may_leave other x) (c.may_leave other x) (first.left_others other x ne) (second.left_others other x ne);
  moments = moments_trans a b c (λ images said. (before : List (List ℕ)) × Leaves a before × TornAt disk at n before images × (said ≡ a.said)) first.later second.later
      first.moments
      (λ images said left. let m = second.moments images said left in let from = torn_from disk at n a b in_range first.later.sizes first.left (λ other x ne. (first.left_others other x ne).0) images m.0 in (from.0, from.1, from.2, m.1 ∙ first.quiet.said));
}

pub leaves_settles : (a b : Seen) (images : List (List ℕ)) → Settles a b → Leaves b images → Leaves a images
leaves_settles a b images settles left = record {
  one_each = left.one_each ∙ ap length settles.later.sizes;
  each = λ disk lt. settles.left disk (image images disk) (left.each disk (subst (λ (l : List ℕ). disk < length l) (sym settles.later.sizes) lt));
}

pub syncs_settles : (disk : ℕ) (a b : Seen) → Syncs disk a b → Settles a b
syncs_settles disk a b sync = record {
  later = sync.later;
  quiet = sync.quiet;
  content = sync.content;
  wrote = sync.wrote;
  left = λ other c left. ⊎_elim (λ is. subst (λ (d : ℕ). a.may_leave d c) (sym is) (sync.left c (subst (λ (d : ℕ). b.may_leave d c) is left))) (λ ne. (sync.left_others other c ne).0 left) (cases_eq other disk);
  moments = sync.moments;
}

pub settles_trans : (a b c : Seen) → Settles a b → Settles b c → Settles a c
settles_trans a b c first second = record {
  later = later_trans a b c first.later second.later;
  quiet = quiet_trans a b c first.quiet second.quiet;
  content = second.content ∙ first.content;
  wrote = second.wrote ∙ first.wrote;
  left = λ disk x left. first.left disk x (second.left disk x left);
  moments = moments_trans a b c (λ images said. Leaves a images × (said ≡ a.said)) first.later second.later
      first.moments
      (λ images said left. let m = second.moments images said left in (leaves_settles a b images first m.0, m.1 ∙ first.quiet.said));
}

-- a call that looks syncs nothing
pub looks_settles : {a b : Seen} {P : Type 0} → Looks a b P → Settles a b
looks_settles {a} {b} looks = syncs_settles 0 a b (still_syncs 0 a b looks.still looks.quiet)

-- syncs are work on the disks
pub settles_works : {a b : Seen} {P : Type 0} → Settles a b → (P → DiskFailed a b) → Works a b P
settles_works settles cause = record { later = settles.later; quiet = settles.quiet; cause = cause }
