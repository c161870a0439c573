-- Views that are tried for a label.
use Rattle.std.proofs.Common.{◌≡◌, ℕ, ◌-◌, ◌*◌, List, [], ◌∷◌, Option, Some, None, Result, Ok, Err, IfOk, Bool, true, false, is_ok, length, if◌then◌else◌, refl, sym, ◌∙◌, ap, subst}
use Rattle.std.specs.Prelude.{All}
use Rattle.std.proofs.lemmas.List.Elements.{All-nil, All-cons, All-head, All-tail}
use Rattle.ldm_label.specs.declared.Label.{Label}
use Rattle.ldm_label.specs.declared.LabelFault.{LabelFault}
use Rattle.ldm_label.specs.Fields.{sectors_of, sector}
use Rattle.ldm_label.specs.LabelOf.{label_of}
use Rattle.ldm_copy.specs.Copy.{config_area}
use Rattle.ldm_view.specs.Patches.{laid}
use Rattle.ldm_damage.specs.declared.damage.Damage.{Damage}
use Rattle.ldm_damage.specs.declared.error.DamageError.{DamageError}
use Rattle.ldm_damage.specs.Passing.{IsFaultOfCopy, IsPassed, shut_by}
use Rattle.ldm_damage.specs.Views.{IsDamage}
use Rattle.ldm_damage.specs.declared.mending.Mended.{Mended}
use Rattle.ldm_damage.specs.Mending.{first_labelled, header_tries, lacks_header, is_left, mended, mended_by, tries, with_mbr}
use Rattle.ldm_damage.specs.Trying.{IsTried, IsMended, headed}
use Rattle.ldm_damage.proofs.DamageLaws.{labelled_stays}

abbrev has_none : List ℕ → Type 0
has_none view = is_ok (label_of view) ≡ false

-- the first view, by whether it has a label
chosen : (view : List ℕ) (more : List (List ℕ)) (other : List ℕ) (b : Bool) → is_ok (label_of view) ≡ b
    → first_labelled (view ∷ more) other ≡ (if b then view else first_labelled more other)
chosen view more other b is = ap (λ (c : Bool). if c then view else first_labelled more other) is

-- the first view has a label
pub tried_first : (view : List ℕ) (more : List (List ℕ)) (before after : List ℕ) (label : Label) → after ≡ view → label_of view ≡ Ok label
    → IsTried (view ∷ more) before (Some label) after
tried_first view more before after label same is = ((λ other. chosen view more other true (ap is_ok is) ∙ sym same), ap label_of same ∙ is)

-- it has none
pub tried_next : (view : List ℕ) (more : List (List ℕ)) (before : List ℕ) (found : Option Label) (after : List ℕ) → is_ok (label_of view) ≡ false
    → IsTried more before found after → IsTried (view ∷ more) before found after
tried_next view more before (Some label) after none is = ((λ other. chosen view more other false none ∙ is.0 other), is.1)
tried_next view more before None after none is = (is.0, All-cons has_none view more none is.1)

-- no view
pub tried_none : (before after : List ℕ) → after ≡ before → IsTried [] before None after
tried_none before after same = (same, All-nil has_none)

pub none_first : (view : List ℕ) (more : List (List ℕ)) (before after : List ℕ) → IsTried (view ∷ more) before None after → is_ok (label_of view) ≡ false
none_first view more before after is = All-head has_none view more is.1

first_of_unlabelled : (views : List (List ℕ)) (other : List ℕ) → All has_none views → first_labelled views other ≡ other
first_of_unlabelled [] other all = refl
first_of_unlabelled (view ∷ more) other all = chosen view more other false (All-head has_none view more all) ∙ first_of_unlabelled more other (All-tail has_none view more all)

-- ---- labels that are mended

mended_is : (bytes : List ℕ) (fault : LabelFault) → label_of bytes ≡ Err fault → is_left bytes ≡ false → mended bytes ≡ first_labelled (tries bytes) bytes
unfolding mended
mended_is bytes fault is mbr =
    ap (λ (b : Bool). if b then bytes else first_labelled (bytes ∷ tries bytes) bytes) mbr
    ∙ chosen bytes (tries bytes) bytes false (ap is_ok is)

-- a label that stays as it is
stays : (bytes view : List ℕ) (m : Mended) (label : Result Label LabelFault) → view ≡ bytes → mended bytes ≡ bytes → label_of bytes ≡ label → m.label ≡ label → m.fault ≡ None → IsMended bytes m view
stays bytes view m label same stay is told none = record {
  shows = same ∙ sym stay;
  label = told ∙ sym is ∙ sym (ap label_of stay);
  fault = none ∙ sym (ap (mended_by (label_of bytes)) (ap label_of stay) ∙ itself (label_of bytes));
}
  where
    itself : (l : Result Label LabelFault) → mended_by l l ≡ None
    itself (Ok label) = refl
    itself (Err fault) = refl

pub stays_labelled : (bytes view : List ℕ) (m : Mended) (label : Label) → view ≡ bytes → label_of bytes ≡ Ok label → m.label ≡ Ok label → m.fault ≡ None → IsMended bytes m view
stays_labelled bytes view m label same is told none = stays bytes view m (Ok label) same (labelled_stays bytes label is) is told none

pub stays_left : (bytes view : List ℕ) (m : Mended) (fault : LabelFault) → view ≡ bytes → is_left bytes ≡ true → label_of bytes ≡ Err fault → m.label ≡ Err fault → m.fault ≡ None
    → IsMended bytes m view
unfolding mended
stays_left bytes view m fault same left is told none =
    stays bytes view m (Err fault) same (ap (λ (b : Bool). if b then bytes else first_labelled (bytes ∷ tries bytes) bytes) left) is told none

pub stays_unmended : (bytes before after view : List ℕ) (m : Mended) (fault : LabelFault) → view ≡ bytes → is_left bytes ≡ false → label_of bytes ≡ Err fault
    → IsTried (tries bytes) before None after → m.label ≡ Err fault → m.fault ≡ None → IsMended bytes m view
stays_unmended bytes before after view m fault same mbr is tried told none =
    stays bytes view m (Err fault) same (mended_is bytes fault is mbr ∙ first_of_unlabelled (tries bytes) bytes tried.1) is told none

pub is_mended : (bytes before view : List ℕ) (m : Mended) (fault : LabelFault) (label : Label) → is_left bytes ≡ false → label_of bytes ≡ Err fault
    → IsTried (tries bytes) before (Some label) view → m.label ≡ Ok label → m.fault ≡ Some fault → IsMended bytes m view
is_mended bytes before view m fault label mbr is tried told some = record {
  shows = sym there;
  label = told ∙ sym (ap label_of there ∙ tried.1);
  fault = some ∙ sym (ap (λ (l : Result Label LabelFault). mended_by l (label_of (mended bytes))) is ∙ ap (mended_by (Err fault)) (ap label_of there ∙ tried.1));
}
  where
    there : mended bytes ≡ view
    there = mended_is bytes fault is mbr ∙ tried.0 bytes

-- more views behind one that has a label
pub tried_more : (view : List ℕ) (more : List (List ℕ)) (before : List ℕ) (label : Label) (after : List ℕ) → IsTried (view ∷ []) before (Some label) after
    → IsTried (view ∷ more) before (Some label) after
tried_more view more before label after is = ((λ other. chosen view more other true has ∙ sym (chosen view [] after true has) ∙ is.0 after), is.1)
  where
    by_test : (b : Bool) → is_ok (label_of view) ≡ b → is_ok (label_of view) ≡ true
    by_test true test = test
    by_test false test =
        let other_first : (other : List ℕ) → other ≡ after = λ other. sym (chosen view [] other false test) ∙ is.0 other in
        absurd (cc (ap (length {A = ℕ}) (other_first []) ∙ sym (ap (length {A = ℕ}) (other_first (0 ∷ [])))))

    has : is_ok (label_of view) ≡ true
    has = by_test (is_ok (label_of view)) refl

-- two tries in a row, of the image's last sectors
pub two_tries : (before mid whole : List ℕ) (n : ℕ) (found : Option Label) (after : List ℕ) → n ≡ sectors_of whole
    → IsTried (laid before (512 * 6) (sector whole (n - 1)) ∷ []) before None mid → IsTried (laid mid (512 * 6) (sector whole (n - 192)) ∷ []) mid found after
    → IsTried (headed before whole) before found after
two_tries before mid whole n found after size first second =
    subst (λ (m : ℕ). IsTried (laid before (512 * 6) (sector whole (m - 1)) ∷ laid before (512 * 6) (sector whole (m - 192)) ∷ []) before found after) size
    (tried_next (laid before (512 * 6) (sector whole (n - 1))) (laid before (512 * 6) (sector whole (n - 192)) ∷ []) before found after
    (none_first (laid before (512 * 6) (sector whole (n - 1))) [] before mid first)
    (subst (λ (b : List ℕ). IsTried (laid b (512 * 6) (sector whole (n - 192)) ∷ []) b found after) first.0 second))

-- what is tried of an image whose MBR was tried
pub tried_rest : (whole mid after : List ℕ) (fault : LabelFault) (found : Option Label) → mid ≡ with_mbr whole → label_of (with_mbr whole) ≡ Err fault
    → IsTried (if lacks_header (Err fault) then headed mid whole else []) mid found after → IsTried (tries whole) (with_mbr whole) found after
tried_rest whole mid after fault found same is tried =
    subst (λ (l : Result Label LabelFault). IsTried (with_mbr whole ∷ (if lacks_header l then header_tries whole else [])) (with_mbr whole) found after) (sym is)
    (tried_next (with_mbr whole) (if lacks_header (Err fault) then header_tries whole else []) (with_mbr whole) found after (ap is_ok is)
    (subst (λ (b : List ℕ). IsTried (if lacks_header (Err fault) then headed b whole else []) b found after) same tried))

-- ---- an image with its label and its copy

pub damage_passed : (r : Result Damage DamageError) (bytes mid view : List ℕ) (m : Mended) (label : Label) → IsMended bytes m mid → m.label ≡ Ok label
    → IfOk r (λ damage. damage.label ≡ m.fault) → IfOk r (λ damage. IsFaultOfCopy (config_area label mid) label.area_sectors damage.copy)
    → IfOk r (λ damage. view ≡ shut_by damage.copy label mid) → IfOk r (λ damage. IsDamage bytes damage view)
damage_passed (Ok damage) bytes mid view m label is labelled mends fault shows = record {
  label = mends ∙ is.fault;
  copy = subst (λ (b : List ℕ). IsPassed (label_of b) b damage.copy view) is.shows
      (subst (λ (l : Result Label LabelFault). IsPassed l mid damage.copy view) (sym labelled ∙ is.label ∙ ap label_of (sym is.shows)) (fault, shows));
}
damage_passed (Err e) bytes mid view m label is labelled mends fault shows = tt

pub damage_unlabelled : (bytes view : List ℕ) (m : Mended) (fault : LabelFault) → IsMended bytes m view → m.label ≡ Err fault
    → IsDamage bytes (record { label = m.fault; copy = None }) view
damage_unlabelled bytes view m fault is none = record {
  label = is.fault;
  copy = subst (λ (l : Result Label LabelFault). IsPassed l (mended bytes) None view) (sym none ∙ is.label) (refl, is.shows);
}
