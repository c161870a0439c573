-- What follows of calls that read a host by a view of it.
use Rattle.std.proofs.lemmas.List.{get_or-append_right}
use Rattle.std.proofs.Common.{◌≡◌, ◌≤◌, ◌-◌, ◌++◌, arith, length, get_or, ℕ, List, [], ◌∷◌, Option, None, Result, Ok, Err, IfOk, OnOk, IsErrOf, refl, sym, ◌∙◌, ap, subst}
use Rattle.std.proofs.Math.Logic.{∥∥₁_map, ∥∥₁_elim}
use Rattle.std.proofs.Props.{props}
use Rattle.ldm_host.specs.Seen.{Seen}
use Rattle.ldm_host.specs.Moves.{Still, Looks}
use Rattle.ldm_host.proofs.Relations.{still_trans, quiet_trans, rose_sooner}
use Rattle.ldm_label.specs.declared.Label.{Label}
use Rattle.ldm_label.specs.declared.LabelFault.{LabelFault}
use Rattle.ldm_label.specs.LabelOf.{label_of}
use Rattle.ldm_copy.specs.declared.answer.CopyFault.{CopyFault}
use Rattle.ldm_copy.specs.Copy.{config_area}
use Rattle.ldm_damage.specs.declared.error.DamageError.{DamageError}
use Rattle.ldm_damage.specs.declared.error.DamageError.TheVariants.{Disk}
use Rattle.ldm_damage.specs.Looked.{Looked}
use Rattle.ldm_damage.specs.Passing.{IsFaultOfCopy, IsPassed, shut_by}

pub same_sizes : (a b : Seen) → ∥ Still a b ∥₁ → b.sizes ≡ a.sizes
same_sizes a b still = ∥∥₁_elim still (hlevel props) (λ (s : Still a b). s.later.sizes)

pub same_content : (a b : Seen) → ∥ Still a b ∥₁ → b.content ≡ a.content
same_content a b still = ∥∥₁_elim still (hlevel props) (λ (s : Still a b). s.content)

pub no_less : (a b : Seen) → ∥ Still a b ∥₁ → a.disk_faults ≤ b.disk_faults
no_less a b still = ∥∥₁_elim still (hlevel props) (λ (s : Still a b). s.later.disk_faults)

pub no_less_talk : (a b : Seen) → ∥ Still a b ∥₁ → a.talk_faults ≤ b.talk_faults
no_less_talk a b still = ∥∥₁_elim still (hlevel props) (λ (s : Still a b). s.later.talk_faults)

pub both_still : (a b c : Seen) → ∥ Still a b ∥₁ → ∥ Still b c ∥₁ → ∥ Still a c ∥₁
both_still a b c first second = ∥∥₁_elim first (hlevel props) (λ (s : Still a b). ∥∥₁_map second (λ (t : Still b c). still_trans a b c s t))

-- two such calls are one
pub looked_then : (a b c : Seen) (P Q R : Type 0) → Looked a b P → Looked b c Q → (R → Q) → Looked a c R
looked_then a b c P Q R first second fails = record {
  still = both_still a b c first.still second.still;
  quiet = quiet_trans a b c first.quiet second.quiet;
  cause = λ failed. rose_sooner a.disk_faults b.disk_faults c.disk_faults (no_less a b first.still) (second.cause (fails failed));
}

pub ok_at : {A E : Type 0} (r : Result A E) (P : A → Type 0) (a : A) → r ≡ Ok a → IfOk r P → P a
ok_at r P a is holds = subst (λ x. IfOk x P) is holds

pub ok_map : {A E : Type 0} (r : Result A E) (P Q : A → Type 0) → ((a : A) → P a → Q a) → IfOk r P → IfOk r Q
ok_map (Ok a) P Q f holds = f a holds
ok_map (Err e) P Q f holds = holds

-- the copy of a disk that has a label
pub is_passed : (r : Result (Option CopyFault) DamageError) (label : Label) (old mid view : List ℕ) → label_of old ≡ Ok label → mid ≡ old
    → IfOk r (IsFaultOfCopy (config_area label mid) label.area_sectors) → IfOk r (λ passed. view ≡ shut_by passed label mid)
    → IfOk r (λ passed. IsPassed (label_of old) old passed view)
is_passed (Ok passed) label old mid view is same fault shown =
    subst (λ l. IsPassed l old passed view) (sym is)
    (subst (λ (m : List ℕ). IsFaultOfCopy (config_area label m) label.area_sectors passed) same fault, shown ∙ ap (shut_by passed label) same)
is_passed (Err e) label old mid view is same fault shown = tt

-- a disk without a label
pub not_passed : (fault : LabelFault) (old view : List ℕ) → label_of old ≡ Err fault → view ≡ old → IsPassed (label_of old) old None view
not_passed fault old view is same = subst (λ l. IsPassed l old None view) (sym is) (refl, same)

pub last_of_more : {A : Type 0} (xs : List A) (x d : A) (n : ℕ) → length xs ≡ n → get_or (xs ++ x ∷ []) n d ≡ x
last_of_more xs x d n len = get_or-append_right xs (x ∷ []) n n d len (omega arith) ∙ ap (λ (k : ℕ). get_or (x ∷ []) k d) (zero_is n)
  where
    zero_is : (n : ℕ) → n - n ≡ 0
    zero_is n = omega arith

pub on_ok_map : {A E : Type 0} (r : Result A E) (P Q : Type 0) → (P → Q) → OnOk r P → OnOk r Q
on_ok_map (Ok a) P Q f holds = f holds
on_ok_map (Err e) P Q f holds = holds

-- a call that only looks at the disks
pub looked_as : (a b : Seen) (P : Type 0) → Looks a b P → Looked a b P
looked_as a b P looks = record { still = ∣ looks.still ∣₁; quiet = looks.quiet; cause = looks.cause }

pub looked_on : (a b : Seen) (P Q : Type 0) → Looked a b P → (Q → P) → Looked a b Q
looked_on a b P Q looked fails = record { still = looked.still; quiet = looked.quiet; cause = λ failed. looked.cause (fails failed) }

-- an error that was handed on
pub err_of : {A B : Type 0} (r : Result B DamageError) (error : DamageError) → r ≡ Err error → IsErrOf {T = A} (Err error) Disk → r ≡ Err Disk
err_of r error is failed = let same : error ≡ Disk = cc failed in is ∙ ap (λ (e : DamageError). Err e) same

-- the label of a view, which was read
pub read_of : (r : Result (Result Label LabelFault) DamageError) (read label : Result Label LabelFault) (view seen : List ℕ) → r ≡ Ok read → read ≡ label → seen ≡ view
    → IfOk r (λ l. l ≡ label_of seen) → label_of view ≡ label
read_of r read label view seen is told same holds = sym (ok_at r (λ l. l ≡ label_of seen) read is holds ∙ ap label_of same) ∙ told
