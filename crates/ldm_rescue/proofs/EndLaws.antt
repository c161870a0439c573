-- How the job of a rescue ends, by the call that ends it.
use Rattle.std.proofs.Common.{◌≡◌, inl, inr, ⊎_elim, ℕ, ◌+◌, ◌≤◌, ◌==◌, List, ◌++◌, refl, sym, ◌∙◌, ap, subst, Bool, true, false, if◌then◌else◌, Option, Some, None, Result, Ok, Err, Contains}
use Rattle.std.proofs.lemmas.List.{append-nil}
use Rattle.ldm_host.specs.Seen.{Seen}
use Rattle.ldm_host.specs.Moves.{Begins, Looks, DiskFailed, TalkFailed, Still, SameInput}
use Rattle.ldm_host.specs.declared.host.DiskRange.{DiskRange}
use Rattle.ldm_host.proofs.Relations.{still_trans}
use Rattle.ldm_records.specs.declared.types.Volume.{Volume}
use Rattle.ldm_group.specs.Looks.{volume_named}
use Rattle.ldm_places.specs.Layouts.{Layout}
use Rattle.ldm_places.specs.declared.shape.LayoutFault.{LayoutFault}
use Rattle.ldm_layout.specs.Volumes.{layout_of}
use Rattle.ldm_copy.specs.declared.fault.OpenFault.{OpenFault}
use Rattle.ldm_copy.specs.declared.found.Found.{Found}
use Rattle.ldm_text.specs.Texts.{text_of_refusal}
use Rattle.ldm_words.specs.declared.job.Section.{Section}
use Rattle.ldm_words.specs.declared.status.Status.{Status}
use Rattle.ldm_words.specs.declared.status.Status.TheVariants.{Done, Refused, Usage, DiskFault, NoMemory, TalkFault}
use Rattle.ldm_look.specs.Said.{Answer, HasAnswer, SaysNothing}
use Rattle.ldm_look.specs.Runs.{OnlyReads}
use Rattle.ldm_look.proofs.EndLaws.{causes_since, not_fault, Failing}
use Rattle.ldm_rescue.specs.declared.losses.Loss.{Loss}
use Rattle.ldm_rescue.specs.declared.rescuing.Rescue.{Rescue}
use Rattle.ldm_rescue.specs.Rescue.{Outcome, refusal, end_of, IsSaid, IsBegun, OfAsked, OfLayout, OfVolume, OfGroup, asked_section, Rescues}
use Rattle.ldm_rescue.specs.Losses.{lost_in, AreRanges}
use Rattle.ldm_rescue.specs.Told.{AreTold}
use Rattle.ldm_rescue.proofs.ToldLaws.{told_wider}

-- the end of a rescue that didn't say all sectors
abbrev pub ended : Status → Rescue
ended status = record { status = status; totals = None }

-- ---- statuses

pub no_memory : (old new : Seen) → Failing old new NoMemory
no_memory old new = record { none = λ has. has; no_usage = λ is. cc; causes = record { disk = λ is. absurd cc; talk = λ is. absurd cc } }

pub disk_fault : (old new : Seen) → DiskFailed old new → Failing old new DiskFault
disk_fault old new rose = record { none = λ has. has; no_usage = λ is. cc; causes = record { disk = λ is. rose; talk = λ is. absurd cc } }

-- the status of an end with totals
has_answer : (none : Bool) → HasAnswer (if none then Done else Refused)
has_answer true = tt
has_answer false = tt

loud : (status : Status) → HasAnswer status → SaysNothing status → ⊥
loud Done has none = none
loud Refused has none = none
loud other has none = absurd has

-- ---- how it ends

-- something failed before anything was said
pub rescues_nothing : {tells hears P : Type 0} {old new : Seen} {before : List Loss} {IsOne IsFront : Outcome → Type 0} (status : Status) (end : Rescue) → end ≡ ended status
    → Failing old new status → Looks old new P → Rescues tells hears old new before before IsOne IsFront end
rescues_nothing {tells} {hears} {P} {old} {new} {before} {IsOne} {IsFront} status end is fails looks =
    subst (λ (e : Rescue). Rescues tells hears old new before before IsOne IsFront e) (sym is) (record {
      answers = λ told has. absurd (fails.none has);
      front = λ told fault. inl looks.quiet.said;
      silent = λ none. (looks.quiet.said, refl);
      no_totals = λ none. refl;
      no_usage = fails.no_usage;
      causes = fails.causes;
      still = looks.still;
      input = record { input = looks.quiet.input; heard = looks.quiet.heard };
    })

-- it was refused for this reason
pub rescues_refusal : {talks tells hears : Type 0} {old new : Seen} {before : List Loss} {IsOne IsFront : Outcome → Type 0} (reason : List ℕ) (status : Status) (end : Rescue) → end ≡ ended status
    → (tells → IsOne (refusal reason)) → (tells → IsFront (refusal reason)) → (tells → talks) → OnlyReads talks old new (λ answer. answer ≡ (text_of_refusal reason, Refused)) status
    → Rescues tells hears old new before before IsOne IsFront end
rescues_refusal {talks} {tells} {hears} {old} {new} {before} {IsOne} {IsFront} reason status end is one first both reads =
    subst (λ (e : Rescue). Rescues tells hears old new before before IsOne IsFront e) (sym is) (record {
      answers = λ told has. let w = (reads.ends.answers (both told)).whole has in (
        refusal reason,
        one told,
        record {
          said = w.2.said ∙ ap (λ (a : Answer). old.said ++ a.0) w.1;
          told = λ hear. sym (append-nil before);
          ended = ap (λ (s : Status). ended s) (w.2.status_is ∙ ap (λ (a : Answer). a.1) w.1);
        },
      );
      front = λ told fault. ⊎_elim
          (λ none. inl none)
          (λ some. inr (refusal reason, first told, subst (λ (a : Answer). Begins new.said (old.said ++ a.0)) some.1 some.2))
          (reads.ends.answers (both told)).front;
      silent = λ none. (reads.silent none, refl);
      no_totals = λ none. refl;
      no_usage = reads.ends.no_usage;
      causes = reads.ends.causes;
      still = reads.still;
      input = reads.input;
    })

-- all sectors were said
pub rescues_all : {tells hears : Type 0} {old new : Seen} {before after : List Loss} {images : List (List ℕ)} {failed : List DiskRange} {found : Found} {l : Layout} {section : Section} {IsFront : Outcome → Type 0} (lost : ℕ) (end : Rescue) → end ≡ end_of section.count lost
    → (tells → (bytes : List ℕ) × (losses_told : List Loss) × (new.said ≡ old.said ++ bytes) × (hears → after ≡ before ++ losses_told) × AreTold images failed found l section.first section.count bytes losses_told
    × AreRanges section.first (section.first + section.count) losses_told × (lost ≡ lost_in losses_told))
    → Still old new → SameInput old new → Rescues tells hears old new before after (IsSaid images failed found l section) IsFront end
rescues_all {tells} {hears} {old} {new} {before} {after} {images} {failed} {found} {l} {section} {IsFront} lost end is said still input =
    subst (λ (e : Rescue). Rescues tells hears old new before after (IsSaid images failed found l section) IsFront e) (sym is) (record {
      answers = λ told has_one. let s = said told in (
        record { text = s.0; told = s.1; end = end_of section.count lost },
        record { are = s.4; ranges = s.5; end = ap (λ (n : ℕ). end_of section.count n) s.6 },
        record { said = s.2; told = s.3; ended = refl },
      );
      front = λ told fault. absurd (not_fault {fault = TalkFault} has (λ no. no) fault);
      silent = λ none. absurd (loud (end_of section.count lost).status has none);
      no_totals = λ none. absurd (none has);
      no_usage = not_fault {fault = Usage} has (λ no. no);
      causes = record { disk = λ fault. absurd (not_fault {fault = DiskFault} has (λ no. no) fault); talk = λ fault. absurd (not_fault {fault = TalkFault} has (λ no. no) fault) };
      still = still;
      input = input;
    })
  where
    has : HasAnswer (end_of section.count lost).status
    has = has_answer (lost == 0)

-- the talk failed, and some first sectors were said
pub rescues_part : {tells hears : Type 0} {old new : Seen} {before after : List Loss} {images : List (List ℕ)} {failed : List DiskRange} {found : Found} {l : Layout} {section : Section} {IsOne : Outcome → Type 0} (end : Rescue) → end ≡ ended TalkFault
    → (tells → (n : ℕ) × (bytes : List ℕ) × (losses_told : List Loss) × (n ≤ section.count) × Begins new.said (old.said ++ bytes) × AreTold images failed found l section.first n bytes losses_told)
    → TalkFailed old new → Still old new → SameInput old new → Rescues tells hears old new before after IsOne (IsBegun images failed found l section) end
rescues_part {tells} {hears} {old} {new} {before} {after} {images} {failed} {found} {l} {section} {IsOne} end is front rose still input =
    subst (λ (e : Rescue). Rescues tells hears old new before after IsOne (IsBegun images failed found l section) e) (sym is) (record {
      answers = λ told has. absurd has;
      front = λ told fault. let f = front told in inr (
        record { text = f.1; told = f.2; end = ended TalkFault },
        record { count = f.0; few = f.3; are = f.5 },
        f.4,
      );
      silent = λ none. absurd none;
      no_totals = λ none. refl;
      no_usage = λ usage. cc;
      causes = record { disk = λ fault. absurd cc; talk = λ fault. rose };
      still = still;
      input = input;
    })

-- a call that only looks may come before, and an outcome of one kind may be one of another
pub rescues_first : {tells hears P : Type 0} {old mid new : Seen} {before after : List Loss} {IsOne IsOther IsFront IsSooner : Outcome → Type 0} {end : Rescue} → Looks old mid P
    → (tells → (o : Outcome) → IsOne o → IsOther o) → (tells → (o : Outcome) → IsFront o → IsSooner o) → Rescues tells hears mid new before after IsOne IsFront end
    → Rescues tells hears old new before after IsOther IsSooner end
rescues_first {tells} {hears} {P} {old} {mid} {new} {before} {after} {IsOne} {IsOther} {IsFront} {IsSooner} {end} looks turn front last = record {
  answers = λ told has. let a = last.answers told has in (
    a.0,
    turn told a.0 a.1,
    record { said = a.2.said ∙ ap (λ (l : List ℕ). l ++ a.0.text) looks.quiet.said; told = a.2.told; ended = a.2.ended },
  );
  front = λ told fault. ⊎_elim
      (λ none. inl (none ∙ looks.quiet.said))
      (λ some. inr (some.0, front told some.0 some.1, subst (λ (l : List ℕ). Begins new.said (l ++ some.0.text)) looks.quiet.said some.2))
      (last.front told fault);
  silent = λ none. ((last.silent none).0 ∙ looks.quiet.said, (last.silent none).1);
  no_totals = last.no_totals;
  no_usage = last.no_usage;
  causes = causes_since old mid new end.status looks.still.later last.causes;
  still = still_trans old mid new looks.still last.still;
  input = record { input = last.input.input ∙ looks.quiet.input; heard = last.input.heard ∙ looks.quiet.heard };
}

-- an outcome of one kind may be one of another
pub rescues_as : {tells hears : Type 0} {old new : Seen} {before after : List Loss} {IsOne IsOther IsFront IsSooner : Outcome → Type 0} {end : Rescue}
    → ((o : Outcome) → IsOne o → IsOther o) → ((o : Outcome) → IsFront o → IsSooner o) → Rescues tells hears old new before after IsOne IsFront end
    → Rescues tells hears old new before after IsOther IsSooner end
rescues_as turn front last = record {
  answers = λ told has. let a = last.answers told has in (a.0, turn a.0 a.1, a.2);
  front = λ told fault. ⊎_elim (λ none. inl none) (λ some. inr (some.0, front some.0 some.1, some.2)) (last.front told fault);
  silent = last.silent;
  no_totals = last.no_totals;
  no_usage = last.no_usage;
  causes = last.causes;
  still = last.still;
  input = last.input;
}

-- ---- outcomes

-- after more reads failed
pub said_more : (images now : List (List ℕ)) (failed more : List DiskRange) (found : Found) (l : Layout) (section : Section) (o : Outcome) → now ≡ images → ((r : DiskRange) → Contains failed r → Contains more r)
    → IsSaid now failed found l section o → IsSaid images more found l section o
said_more images now failed more found l section o same wider is = record {
  are = subst (λ (i : List (List ℕ)). AreTold i more found l section.first section.count o.text o.told) same (told_wider now failed more found l section.first section.count o.text o.told wider is.are);
  ranges = is.ranges;
  end = is.end;
}

pub begun_more : (images now : List (List ℕ)) (failed more : List DiskRange) (found : Found) (l : Layout) (section : Section) (o : Outcome) → now ≡ images → ((r : DiskRange) → Contains failed r → Contains more r)
    → IsBegun now failed found l section o → IsBegun images more found l section o
begun_more images now failed more found l section o same wider is = record {
  count = is.count;
  few = is.few;
  are = subst (λ (i : List (List ℕ)). AreTold i more found l section.first is.count o.text o.told) same (told_wider now failed more found l section.first is.count o.text o.told wider is.are);
}

module _ (Is Other : Layout → Section → Outcome → Type 0) (turn : (l : Layout) (s : Section) (o : Outcome) → Is l s o → Other l s o) (section : Option Section) (o : Outcome) where
  asked_as : (l : Layout) (asked : Option Section) → OfAsked (Is l) asked o → OfAsked (Other l) asked o
  asked_as l None is = is
  asked_as l (Some s) is = turn l s o is

  layout_as : (r : Result Layout LayoutFault) → OfLayout Is section r o → OfLayout Other section r o
  layout_as (Ok l) is = asked_as l (asked_section l.size section) is
  layout_as (Err fault) is = absurd is

  pub volume_as : (found : Found) (v : Option Volume) → OfVolume Is section found v o → OfVolume Other section found v o
  volume_as found None is = is
  volume_as found (Some v) is = layout_as (layout_of found.db.records v) is

pub group_as : (Is Other : Found → Layout → Section → Outcome → Type 0) → ((f : Found) (l : Layout) (s : Section) (o : Outcome) → Is f l s o → Other f l s o) → (name : List ℕ) (section : Option Section) (o : Outcome) (group : Result Found OpenFault)
    → OfGroup Is name section group o → OfGroup Other name section group o
group_as Is Other turn name section o (Ok found) is = volume_as (Is found) (Other found) (turn found) section o found (volume_named name found.db.records) is
group_as Is Other turn name section o (Err fault) is = is

-- of a section that the volume has, or hasn't
pub of_asked : (Is : Section → Outcome → Type 0) (asked other : Option Section) (o : Outcome) → asked ≡ other → OfAsked Is asked o → OfAsked Is other o
of_asked Is asked other o same is = subst (λ (s : Option Section). OfAsked Is s o) same is

-- a group has no volume of this name
pub of_no_volume : (Is : Found → Layout → Section → Outcome → Type 0) (name : List ℕ) (section : Option Section) (found : Found) (o : Outcome) → volume_named name found.db.records ≡ None
    → OfVolume (Is found) section found None o → OfGroup Is name section (Ok found) o
of_no_volume Is name section found o none is = subst (λ (v : Option Volume). OfVolume (Is found) section found v o) (sym none) is

-- a volume with this layout
pub of_volume : (Is : Found → Layout → Section → Outcome → Type 0) (name : List ℕ) (section : Option Section) (found : Found) (v : Volume) (l : Layout) (o : Outcome) → volume_named name found.db.records ≡ Some v
    → layout_of found.db.records v ≡ Ok l → OfAsked (Is found l) (asked_section l.size section) o → OfGroup Is name section (Ok found) o
of_volume Is name section found v l o named laid is =
    subst (λ (w : Option Volume). OfVolume (Is found) section found w o) (sym named) (subst (λ (r : Result Layout LayoutFault). OfLayout (Is found) section r o) (sym laid) is)
