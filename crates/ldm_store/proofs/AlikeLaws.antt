-- Copies that hold the same groups give answers that tell the same.
use Rattle.std.proofs.Common.{◌≡◌, ℕ, suc, Bool, true, false, List, [], ◌∷◌, Option, Some, None, zero, Result, Err, refl, sym, ap, subst, ◌∙◌}
use Rattle.std.specs.Prelude.{map, nat_lt, if◌then◌else◌}
use Rattle.ldm_bytes.specs.Tables.{first_of, unless}
use Rattle.ldm_group.specs.Database.{Database, Core, IsSameCore}
use Rattle.ldm_label.specs.declared.Label.{Label}
use Rattle.ldm_copy.specs.declared.answer.CopyState.{CopyState}
use Rattle.ldm_copy.specs.declared.answer.CopyState.TheVariants.{Closed, Valid}
use Rattle.ldm_copy.specs.declared.fault.OpenFault.{OpenFault}
use Rattle.ldm_copy.specs.declared.fault.OpenFault.TheVariants as faults
use Rattle.ldm_copy.specs.declared.notes.Note.{Note}
use Rattle.ldm_copy.specs.declared.found.Found.{Found}
use Rattle.ldm_found.specs.Gathers.{IsFirst}
use Rattle.ldm_found.specs.Copies.{newer, newest, Disagrees, note_of}
use Rattle.ldm_found.specs.Editing.{reasons, blocked_in}
use Rattle.ldm_found.specs.Opening.{group_faults, found_with, group_at, IsNewestGroup}
use Rattle.ldm_store.specs.Alike.{AreSameState, AllAlike, TellsSame, AnswerAlike}
use Rattle.ldm_found.proofs.CopyLaws.{first_one, behind}

-- ---- one group

pub same_faults : (a b : Database) (labels : List Label) → IsSameCore a b → group_faults a labels ≡ group_faults b labels
unfolding group_faults
same_faults a b labels same = let records = ap (λ (core : Core). core.records) same in rw records

pub same_blocked : (a b : Database) (labels : List Label) → IsSameCore a b → blocked_in a labels ≡ blocked_in b labels
unfolding reasons
same_blocked a b labels same =
    let records = ap (λ (core : Core). core.records) same in
    let last = ap (λ (core : Core). core.last) same in
    rw (records, last)

pub same_seq : (a b : Database) → IsSameCore a b → a.header.seq ≡ b.header.seq
same_seq a b same = ap (λ (core : Core). core.seq) same

unless_alike : (fault : Option OpenFault) (a b : Found) → TellsSame a b → AnswerAlike (unless fault a) (unless fault b)
unless_alike (Some fault) a b same = refl
unless_alike None a b same = same

group_alike : (image : ℕ) (a b : Database) (other : Option ℕ) (labels : List Label) (notes : List Note) → IsSameCore a b
    → AnswerAlike (group_at image a other labels notes) (group_at image b other labels notes)
group_alike image a b (Some other) labels notes same = refl
group_alike image a b None labels notes same =
    subst (λ (l : List (Option OpenFault)). AnswerAlike (group_at image a None labels notes) (unless (first_of l) (found_with b labels notes))) (same_faults a b labels same)
    (unless_alike (first_of (group_faults a labels)) (found_with a labels notes) (found_with b labels notes)
    (record { core = same; labels = refl; notes = refl; blocked = same_blocked a b labels same }))

-- ---- the newest

abbrev NewestAlike : Option (ℕ × Database) → Option (ℕ × Database) → Type 0
NewestAlike None None = Unit {0}
NewestAlike (Some p) (Some q) = (p.0 ≡ q.0) × IsSameCore p.1 q.1
NewestAlike _ _ = ⊥

by_test : (t u : Bool) (p q : ℕ × Database) (a b : Database) → t ≡ u → p.0 ≡ q.0 → IsSameCore p.1 q.1 → IsSameCore a b
    → NewestAlike (if t then Some p else Some (0, a)) (if u then Some q else Some (0, b))
by_test true true p q a b e at later here = (at, later)
by_test true false p q a b e at later here = absurd (cc)
by_test false true p q a b e at later here = absurd (cc)
by_test false false p q a b e at later here = (refl, here)

newer_alike : (x y : CopyState) (l m : Option (ℕ × Database)) → AreSameState x y → NewestAlike l m → NewestAlike (newer x (behind l)) (newer y (behind m))
newer_alike Closed Closed None None here later = tt
newer_alike Closed Closed None (Some q) here later = absurd later
newer_alike Closed Closed (Some p) None here later = absurd later
newer_alike Closed Closed (Some p) (Some q) here later = (ap suc later.0, later.1)
newer_alike Closed (Valid b) l m here later = absurd here
newer_alike (Valid a) Closed l m here later = absurd here
newer_alike (Valid a) (Valid b) None None here later = (refl, here)
newer_alike (Valid a) (Valid b) None (Some q) here later = absurd later
newer_alike (Valid a) (Valid b) (Some p) None here later = absurd later
newer_alike (Valid a) (Valid b) (Some p) (Some q) here later =
    by_test (nat_lt a.header.seq p.1.header.seq) (nat_lt b.header.seq q.1.header.seq) (suc p.0, p.1) (suc q.0, q.1) a b
    (ap (λ (n : ℕ). nat_lt n p.1.header.seq) (same_seq a b here) ∙ ap (λ (n : ℕ). nat_lt b.header.seq n) (same_seq p.1 q.1 later.1)) (ap suc later.0) later.1 here

newest_alike : (xs ys : List CopyState) → AllAlike xs ys → NewestAlike (newest xs) (newest ys)
newest_alike [] [] all = tt
newest_alike [] (y ∷ ys) all = absurd all
newest_alike (x ∷ xs) [] all = absurd all
newest_alike (x ∷ xs) (y ∷ ys) all = newer_alike x y (newest xs) (newest ys) all.0 (newest_alike xs ys all.1)

-- ---- another of its sequence

alike_back : (x y : CopyState) → AreSameState x y → AreSameState y x
alike_back Closed Closed same = tt
alike_back Closed (Valid b) same = absurd same
alike_back (Valid a) Closed same = absurd same
alike_back (Valid a) (Valid b) same = sym same

disagrees_alike : (d e : Database) (x y : CopyState) → IsSameCore d e → AreSameState x y → Disagrees d x → Disagrees e y
disagrees_alike d e Closed Closed same here differs = differs
disagrees_alike d e Closed (Valid b) same here differs = absurd here
disagrees_alike d e (Valid a) Closed same here differs = absurd here
disagrees_alike d e (Valid a) (Valid b) same here differs = (sym (same_seq a b here) ∙ differs.0 ∙ same_seq d e same, λ is. differs.1 (here ∙ is ∙ sym same))

first_alike : (d e : Database) (xs ys : List CopyState) (o : Option ℕ) → IsSameCore d e → AllAlike xs ys → IsFirst (Disagrees d) xs o → IsFirst (Disagrees e) ys o
first_alike d e [] [] None same all first = tt
first_alike d e [] [] (Some at) same all first = absurd first
first_alike d e [] (y ∷ ys) o same all first = absurd all
first_alike d e (x ∷ xs) [] o same all first = absurd all
first_alike d e (x ∷ xs) (y ∷ ys) None same all first =
    (λ differs. first.0 (disagrees_alike e d y x (sym same) (alike_back x y all.0) differs), first_alike d e xs ys None same all.1 first.1)
first_alike d e (x ∷ xs) (y ∷ ys) (Some zero) same all first = disagrees_alike d e x y same all.0 first
first_alike d e (x ∷ xs) (y ∷ ys) (Some (suc at)) same all first =
    (λ differs. first.0 (disagrees_alike e d y x (sym same) (alike_back x y all.0) differs), first_alike d e xs ys (Some at) same all.1 first.1)

-- ---- the answers

note_alike : (x y : CopyState) → AreSameState x y → note_of x ≡ note_of y
note_alike Closed Closed same = refl
note_alike Closed (Valid b) same = absurd same
note_alike (Valid a) Closed same = absurd same
note_alike (Valid a) (Valid b) same = let seq = same_seq a b same in cc

notes_alike : (xs ys : List CopyState) → AllAlike xs ys → map note_of xs ≡ map note_of ys
notes_alike [] [] all = refl
notes_alike [] (y ∷ ys) all = absurd all
notes_alike (x ∷ xs) [] all = absurd all
notes_alike (x ∷ xs) (y ∷ ys) all = let here = note_alike x y all.0 in let rest = notes_alike xs ys all.1 in cc

both_are : (a b c d : Result Found OpenFault) → a ≡ c → b ≡ d → AnswerAlike c d → AnswerAlike a b
both_are a b c d x y alike =
    subst (λ (r : Result Found OpenFault). AnswerAlike r b) (sym x) (subst (λ (r : Result Found OpenFault). AnswerAlike c r) (sym y) alike)

by_newest : (m n : Option (ℕ × Database)) (xs ys : List CopyState) (labels : List Label) (a b : Result Found OpenFault) → NewestAlike m n → AllAlike xs ys
    → IsNewestGroup m xs labels a → IsNewestGroup n ys labels b → AnswerAlike a b
by_newest None None xs ys labels a b same all x y = both_are a b (Err faults.NoCopy) (Err faults.NoCopy) x y refl
by_newest None (Some q) xs ys labels a b same all x y = absurd same
by_newest (Some p) None xs ys labels a b same all x y = absurd same
by_newest (Some p) (Some q) xs ys labels a b same all x y =
    let other : y.0 ≡ x.0 = first_one (Disagrees q.1) ys y.0 x.0 y.1 (first_alike p.1 q.1 xs ys x.0 same.1 all x.1) in
    let of_b : b ≡ group_at p.0 q.1 x.0 labels (map note_of xs) =
    y.2 ∙ ap (λ (n : ℕ). group_at n q.1 y.0 labels (map note_of ys)) (sym same.0) ∙ ap (λ (o : Option ℕ). group_at p.0 q.1 o labels (map note_of ys)) other
    ∙ ap (λ (l : List Note). group_at p.0 q.1 x.0 labels l) (sym (notes_alike xs ys all)) in
    both_are a b (group_at p.0 p.1 x.0 labels (map note_of xs)) (group_at p.0 q.1 x.0 labels (map note_of xs)) x.2 of_b
    (group_alike p.0 p.1 q.1 x.0 labels (map note_of xs) same.1)

pub alike_answers : (xs ys : List CopyState) (labels : List Label) (a b : Result Found OpenFault) → AllAlike xs ys
    → IsNewestGroup (newest xs) xs labels a → IsNewestGroup (newest ys) ys labels b → AnswerAlike a b
alike_answers xs ys labels a b all x y = by_newest (newest xs) (newest ys) xs ys labels a b (newest_alike xs ys all) all x y
