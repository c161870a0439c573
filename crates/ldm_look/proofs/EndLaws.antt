-- What was said, and how a run goes on.
use Rattle.std.proofs.Common.{◌≡◌, ◌≢◌, inl, inr, ⊎_elim, ℕ, List, ◌++◌, take, drop, sym, ◌∙◌, ap, subst, append_assoc, refl}
use Rattle.std.proofs.lemmas.List.{take-append-drop}
use Rattle.ldm_host.specs.Seen.{Seen}
use Rattle.ldm_host.specs.Moves.{Begins, Later, Looks, Rose, SameInput, Still}
use Rattle.ldm_host.proofs.Relations.{rose_sooner, still_trans}
use Rattle.ldm_words.specs.declared.status.Status.{Status}
use Rattle.ldm_words.specs.declared.status.Status.TheVariants.{Done, Refused, Usage, DiskFault, NoMemory, TalkFault}
use Rattle.ldm_look.specs.Said.{Answer, HasAnswer, IsUnread}
use Rattle.ldm_look.specs.Runs.{Answers, Completes, Causes, Ends, NoFault, OnlyReads, Says}

-- a fault since a later state is one since the old
pub causes_since : (old mid new : Seen) (status : Status) → Later old mid → Causes mid new status → Causes old new status
causes_since old mid new status later causes = record {
  disk = λ is. rose_sooner old.disk_faults mid.disk_faults new.disk_faults later.disk_faults (causes.disk is);
  talk = λ is. rose_sooner old.talk_faults mid.talk_faults new.talk_faults later.talk_faults (causes.talk is);
}

-- the status of an answer is none of the others
pub not_fault : {status fault : Status} → HasAnswer status → (HasAnswer fault → ⊥) → status ≢ fault
not_fault has none = λ is. none (subst HasAnswer is has)

-- what follows where a disk, the talk or memory failed
pub record Failing (old new : Seen) (status : Status) : Type 0 where
  pub none : HasAnswer status → ⊥
  pub no_usage : status ≢ Usage
  pub causes : Causes old new status

-- ---- how a job ends

-- what was quiet before adds nothing, and what is an answer of one kind may be one of another
pub answers_as : (old mid new : Seen) (IsOne IsOther : Answer → Type 0) (status : Status) → mid.said ≡ old.said
    → ((answer : Answer) → IsOne answer → IsOther answer) → Answers mid new IsOne status → Answers old new IsOther status
answers_as old mid new IsOne IsOther status same turn a = record {
  whole = λ is. let w = a.whole is in (w.0, turn w.0 w.1, record { status_is = w.2.status_is; said = w.2.said ∙ ap (λ (l : List ℕ). l ++ w.0.0) same });
  since = (a.since.0, a.since.1 ∙ ap (λ (l : List ℕ). l ++ a.since.0) same);
  front = ⊎_elim
      (λ none. inl (none ∙ same))
      (λ some. inr (some.0, turn some.0 some.1, (some.2.0, ap (λ (l : List ℕ). l ++ some.0.0) (sym same) ∙ some.2.1)))
      a.front;
}

pub ends_first : {talks tells : Type 0} {old mid new : Seen} {IsOne IsOther : Answer → Type 0} {status : Status} → Ends talks mid new IsOne status → Later old mid → mid.said ≡ old.said
    → (tells → talks) → (tells → (answer : Answer) → IsOne answer → IsOther answer) → Ends tells old new IsOther status
ends_first {talks} {tells} {old} {mid} {new} {IsOne} {IsOther} {status} last later same both turn = record {
  answers = λ told. answers_as old mid new IsOne IsOther status same (turn told) (last.answers (both told));
  no_usage = last.no_usage;
  causes = causes_since old mid new status later last.causes;
}

-- a part of one was said
pub ends_part : {tells : Type 0} {old new : Seen} {answer : Answer} {status : Status} → Failing old new status → (tells → Begins new.said (old.said ++ answer.0)) → Begins old.said new.said
    → Ends tells old new (λ a. a ≡ answer) status
ends_part {answer = answer} fails front since = record {
  answers = λ told. record { whole = λ has. absurd (fails.none has); since = since; front = inr (answer, refl, front told) };
  no_usage = fails.no_usage;
  causes = fails.causes;
}

-- nothing was said
pub ends_silent : {tells : Type 0} {old new : Seen} {IsOne : Answer → Type 0} {status : Status} → Failing old new status → new.said ≡ old.said → Begins old.said new.said → Ends tells old new IsOne status
ends_silent fails silent since = record {
  answers = λ told. record { whole = λ has. absurd (fails.none has); since = since; front = inl silent };
  no_usage = fails.no_usage;
  causes = fails.causes;
}

-- Where no count rose, an answer that isn't want of memory is whole.
pub complete : (old new : Seen) (IsOne : Answer → Type 0) (status : Status) → (status ≡ Usage → Completes old new IsOne status) → Answers old new IsOne status
    → Causes old new status → NoFault old new → status ≢ NoMemory → Completes old new IsOne status
complete old new IsOne Done usage a c n m = a.whole tt
complete old new IsOne Refused usage a c n m = a.whole tt
complete old new IsOne Usage usage a c n m = usage refl
complete old new IsOne DiskFault usage a c n m = absurd (n.disk (c.disk refl))
complete old new IsOne NoMemory usage a c n m = absurd (m refl)
complete old new IsOne TalkFault usage a c n m = absurd (n.talk (c.talk refl))

-- ---- what only says an answer

-- a call that only looks may come before
pub says_first : {talks tells P : Type 0} {IsSilent : Status → Type 0} {old mid new : Seen} {IsOne IsOther : Answer → Type 0} {status : Status} → Says talks IsSilent mid new IsOne status → Looks old mid P
    → (tells → talks) → (tells → (answer : Answer) → IsOne answer → IsOther answer) → Says tells IsSilent old new IsOther status
says_first {talks} {tells} {P} {IsSilent} {old} {mid} {new} {IsOne} {IsOther} {status} last looks both turn = record {
  ends = ends_first last.ends looks.still.later looks.quiet.said both turn;
  silent = λ is. last.silent is ∙ looks.quiet.said;
  still = still_trans old mid new looks.still last.still;
  input = record { input = last.input.input ∙ looks.quiet.input; heard = last.input.heard ∙ looks.quiet.heard };
}

-- a fault came in the middle
pub says_part : {tells : Type 0} {IsSilent : Status → Type 0} {old new : Seen} {answer : Answer} {status : Status} → (IsSilent status → ⊥) → Failing old new status → (tells → Begins new.said (old.said ++ answer.0))
    → Still old new → SameInput old new → Says tells IsSilent old new (λ a. a ≡ answer) status
says_part loud fails front still input = record {
  ends = ends_part fails front still.later.said;
  silent = λ is. absurd (loud is);
  still = still;
  input = input;
}

-- something failed before anything was said
pub says_nothing : {tells P : Type 0} {IsSilent : Status → Type 0} {old new : Seen} {IsOne : Answer → Type 0} {status : Status} → Failing old new status → Looks old new P → Says tells IsSilent old new IsOne status
says_nothing fails looks = record {
  ends = ends_silent fails looks.quiet.said looks.still.later.said;
  silent = λ is. looks.quiet.said;
  still = looks.still;
  input = record { input = looks.quiet.input; heard = looks.quiet.heard };
}

-- a part of a text begins it
pub part_begins : (said text new : List ℕ) (n : ℕ) → new ≡ said ++ take n text → Begins new (said ++ text)
part_begins said text new n is = (
  drop n text,
  ap (λ (l : List ℕ). said ++ l) (sym (take-append-drop n text)) ∙ sym (append_assoc said (take n text) (drop n text)) ∙ ap (λ (l : List ℕ). l ++ drop n text) (sym is),
)

-- the talk failed in the middle of the text
pub talk_failed : {tells : Type 0} {old new : Seen} {text : List ℕ} {wanted : Status} (n : ℕ) → new.said ≡ old.said ++ take n text → Rose old.talk_faults new.talk_faults → Still old new
    → SameInput old new → OnlyReads tells old new (λ answer. answer ≡ (text, wanted)) TalkFault
talk_failed {tells} {old} {new} {text} {wanted} n said rose still input =
    says_part (λ silent. silent) (record { none = λ has. has; no_usage = λ is. cc; causes = record { disk = λ is. absurd cc; talk = λ is. rose } }) (λ told. part_begins old.said text new.said n said) still input

-- words without a reading end so
pub record Unread (status : Status) : Type 0 where
  pub none : HasAnswer status → ⊥
  pub no_disk : status ≢ DiskFault
  pub no_talk : status ≢ TalkFault
  pub is_usage : status ≢ NoMemory → status ≡ Usage

pub unread_is : (status : Status) → IsUnread status → Unread status
unread_is Usage unread = record { none = λ has. has; no_disk = λ is. cc; no_talk = λ is. cc; is_usage = λ other. refl }
unread_is NoMemory unread = record { none = λ has. has; no_disk = λ is. cc; no_talk = λ is. cc; is_usage = λ other. absurd (other refl) }
unread_is other unread = absurd unread
