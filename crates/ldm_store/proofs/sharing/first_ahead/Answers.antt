use Rattle.std.proofs.Common.{◌≡◌, ◌<◌, ℕ, List, length, Some, None, Bool, true, slice_get, get_or, ⊎_elim, sym, ◌∙◌, subst, arith}
use Rattle.std.proofs.lemmas.Bool.{cases_eq}
use Rattle.std.proofs.lemmas.Option.{slice_get-get_or, slice_get_within}
use Rattle.ldm_copy.specs.declared.notes.Note.{Note}
use Rattle.ldm_copy.specs.declared.notes.Note.TheVariants as notes
use Rattle.ldm_store.specs.Healing.{is_behind}
use Rattle.ldm_store.proofs.sharing.first_ahead.Goals as goal
use Rattle.ldm_bytes.proofs.NumberLaws.{some_is}

some_none : {X : Type 0} (value : X) → Some value ≡ None → ⊥
some_none value is = cc is

none_some : {X : Type 0} (value : X) → None ≡ Some value → ⊥
none_some value is = cc is

-- the note at a place is the one that was looked at
noted_is : (list : List Note) (disk : ℕ) (seq : ℕ) (note : Note) (behind : Bool) → disk < length list → is_behind seq (get_or list disk notes.Closed) ≡ behind → slice_get list disk ≡ Some note
    → is_behind seq note ≡ behind
noted_is list disk seq note behind lt is noted =
    subst (λ (n : Note). is_behind seq n ≡ behind) (some_is _ _ (sym (slice_get-get_or list disk notes.Closed lt) ∙ noted)) is

pub loop-disk-init : goal.loop-disk-init
loop-disk-init c k note lt at = absurd (omega (arith, lt))

pub loop-disk-preserved : goal.loop-disk-preserved
loop-disk-preserved c k note lt at = ⊎_elim
    (λ same. noted_is c.args.notes.now c.loop-disk.disk c.args.seq note true c.loop-disk-test.true (sym c.is_behind.ensures ∙ c.if-not-is_behind.false) (subst (λ (d : ℕ). slice_get c.args.notes.now d ≡ Some note) same at))
    (λ ne. c.loop-disk.invariant k note (omega (arith, lt, ne)) at)
    (cases_eq k c.loop-disk.disk)

pub returns : goal.returns
returns c = record {
  found = λ disk is. absurd (none_some disk is);
  none = λ is disk note at. c.loop-disk.invariant disk note (omega (arith, slice_get_within c.args.notes.now disk note at, c.loop-disk-test.false)) at;
}
