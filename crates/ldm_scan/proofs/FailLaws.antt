-- The reads that failed: of which disks, and in calls that follow one another.
use Rattle.std.proofs.Common.{◌≡◌, inl, inr, ℕ, ◌+◌, ◌-◌, ◌^◌, ◌≤◌, ◌==◌, ◌||◌, ◌&&◌, min, nat_lt, Bool, true, false, List, [], ◌∷◌, ◌++◌, length, drop, refl, sym, ◌∙◌, ap, subst, arith, append_assoc}
use Rattle.std.specs.List.{list_any}
use Rattle.std.proofs.lemmas.List.Folds.{list_any-append}
use Rattle.std.proofs.Math.Logic.{∥∥₁_map, ∥∥₁_elim}
use Rattle.std.proofs.Props.{props}
use Rattle.std.proofs.lemmas.Bool.{cases_lt, lt-ltb}
use Rattle.std.proofs.lemmas.Bool.Decides.{nat_tests}
use Rattle.ldm_host.specs.Seen.{Seen}
use Rattle.ldm_host.specs.Moves.{Still, Grows, Rose}
use Rattle.ldm_host.specs.declared.host.DiskRange.{DiskRange}
use Rattle.ldm_host.proofs.Relations.{still_trans}
use Rattle.ldm_host.specs.Failed.{failed_since, fails_on}

pub same_sizes : (a b : Seen) → ∥ Still a b ∥₁ → b.sizes ≡ a.sizes
same_sizes a b still = ∥∥₁_elim still (hlevel props) (λ (s : Still a b). s.later.sizes)

pub same_content : (a b : Seen) → ∥ Still a b ∥₁ → b.content ≡ a.content
same_content a b still = ∥∥₁_elim still (hlevel props) (λ (s : Still a b). s.content)

pub same_wrote : (a b : Seen) → ∥ Still a b ∥₁ → b.wrote ≡ a.wrote
same_wrote a b still = ∥∥₁_elim still (hlevel props) (λ (s : Still a b). s.wrote)

pub no_less_talk : (a b : Seen) → ∥ Still a b ∥₁ → a.talk_faults ≤ b.talk_faults
no_less_talk a b still = ∥∥₁_elim still (hlevel props) (λ (s : Still a b). s.later.talk_faults)

pub both_still : (a b c : Seen) → ∥ Still a b ∥₁ → ∥ Still b c ∥₁ → ∥ Still a c ∥₁
both_still a b c first second = ∥∥₁_elim first (hlevel props) (λ (s : Still a b). ∥∥₁_map second (λ (t : Still b c). still_trans a b c s t))

pub or_false : (b : Bool) → (b || false) ≡ b
or_false true = refl
or_false false = refl

drop_front : (xs ys : List DiskRange) → drop (length xs) (xs ++ ys) ≡ ys
drop_front [] ys = refl
drop_front (x ∷ xs) ys = drop_front xs ys

drop_all : (xs : List DiskRange) → drop (length xs) xs ≡ []
drop_all [] = refl
drop_all (x ∷ xs) = drop_all xs

-- nothing failed where the account stayed
pub none_failed : (other : ℕ) (start now : List DiskRange) → now ≡ start → fails_on other (drop (length start) now) ≡ false
none_failed other start now same = ap (λ (l : List DiskRange). fails_on other (drop (length start) l)) same ∙ ap (fails_on other) (drop_all start)

grown : (other : ℕ) (start old new : List DiskRange) → Grows start old → Grows old new
    → fails_on other (drop (length start) new) ≡ (fails_on other (drop (length start) old) || fails_on other (drop (length old) new))
grown other start old new first second =
    ap (λ (l : List DiskRange). fails_on other (drop (length start) l)) (second.1 ∙ ap (λ (l : List DiskRange). l ++ second.0) first.1 ∙ append_assoc start first.0 second.0)
    ∙ ap (fails_on other) (drop_front start (first.0 ++ second.0))
    ∙ list_any-append (λ read. read.disk == other) first.0 second.0
    ∙ sym (ap (λ (b : Bool). b || fails_on other (drop (length old) new)) (ap (λ (l : List DiskRange). fails_on other (drop (length start) l)) first.1 ∙ ap (fails_on other) (drop_front start first.0))
    ∙ ap (λ (b : Bool). list_any (λ read. read.disk == other) first.0 || b) (ap (λ (l : List DiskRange). fails_on other (drop (length old) l)) second.1 ∙ ap (fails_on other) (drop_front old second.0)))

-- what failed in two calls failed in the first or in the second
pub fails_then : (other : ℕ) (start old new : Seen) → ∥ Still start old ∥₁ → ∥ Still old new ∥₁
    → fails_on other (failed_since start new) ≡ (fails_on other (failed_since start old) || fails_on other (failed_since old new))
fails_then other start old new first second =
    ∥∥₁_elim first (hlevel props) (λ (s : Still start old). ∥∥₁_elim second (hlevel props) (λ (t : Still old new). grown other start.failed old.failed new.failed s.later.failed t.later.failed))

-- one read more failed
pub fails_more : (other : ℕ) (start old : Seen) (failed : List DiskRange) (read : DiskRange) → ∥ Still start old ∥₁ → failed ≡ old.failed ++ read ∷ []
    → fails_on other (drop (length start.failed) failed) ≡ (fails_on other (failed_since start old) || (read.disk == other))
fails_more other start old failed read still is =
    ∥∥₁_elim still (hlevel props) (λ (s : Still start old).
    grown other start.failed old.failed failed s.later.failed (read ∷ [], is)
    ∙ ap (λ (b : Bool). fails_on other (failed_since start old) || b) (ap (λ (l : List DiskRange). fails_on other (drop (length old.failed) l)) is ∙ ap (fails_on other) (drop_front old.failed (read ∷ [])) ∙ or_false (read.disk == other)))

-- a read of the disk that is looked at failed
pub note_more : (other chosen disk unread more : ℕ) (before : Bool) → disk ≡ chosen → more ≡ min (unread + 1) (2 ^ 64 - 1) → before ≡ ((other == chosen) && nat_lt 0 unread)
    → (before || (disk == other)) ≡ ((other == chosen) && nat_lt 0 more)
note_more other chosen disk unread more before is next was = grind (arith, nat_tests)

-- a count that was raised, up to its last value
pub more_rose : (unread more refused : ℕ) → more ≡ min (unread + 1) (2 ^ 64 - 1) → Rose (unread + refused) (more + refused)
more_rose unread more refused next = elim (cases_lt unread (2 ^ 64 - 1)) [ inl less ↦ inl (omega arith) | inr last ↦ inr (omega arith) ]

-- no read of another disk failed
pub other_none : (other chosen disk : ℕ) (failed : Bool) → disk ≡ chosen → (other ≡ disk → ⊥) → ((other == chosen) && failed) ≡ false
other_none other chosen disk failed is ne = grind (arith, nat_tests)

-- by whether a read of this one failed
pub this_one : (disk chosen : ℕ) (failed : Bool) → disk ≡ chosen → ((disk == chosen) && failed) ≡ failed
this_one disk chosen failed is = grind (arith, nat_tests)

-- where no call that writes was made, the one that failed was a read
pub unread_is : (unread refused more still_refused : ℕ) → unread ≡ 0 → refused ≡ 0 → still_refused ≡ 0 → Rose (unread + refused) (more + still_refused) → nat_lt 0 more ≡ true
unread_is unread refused more still_refused none some nothing (inl less) = lt-ltb 0 more (omega (arith, less))
unread_is unread refused more still_refused none some nothing (inr last) = lt-ltb 0 more (omega (arith, last))
