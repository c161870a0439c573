-- What is kept of a group by what a line comes to, where a batch may be open.
use Rattle.std.proofs.Common.{◌≡◌, ℕ, ◌+◌, ◌-◌, ◌^◌, ◌<◌, List, refl, sym, ap, subst, ◌∙◌, arith, Bool, true, false, Option, Some, None, Result, Ok, Err, IfOk, IfErr, if◌then◌else◌}
use Rattle.ldm_edits.proofs.Common.{Header, grown_to, Label, Database, IsSoundOn, Command}
use Rattle.std.specs.Option.{ForSome}
use Rattle.ldm_vmdb.specs.Headers.{with_seq}
use Rattle.ldm_group.specs.Database.{at_seq}
use Rattle.ldm_words.specs.declared.command.Command.TheVariants.{Create, Extend, Delete, Begin, Commit, Cancel}
use Rattle.ldm_edits.specs.Drafts.{Drafted}
use Rattle.ldm_words.specs.Limits.{IsCommand}
use Rattle.ldm_edits.specs.declared.batch.Answer.{Answer}
use Rattle.ldm_edits.specs.declared.batch.Answer.TheVariants as answers
use Rattle.ldm_edits.proofs.LimitLaws.{IsGiven}
use Rattle.ldm_edits.proofs.CommandLaws.{command_done}
use Rattle.ldm_edits.specs.declared.batch.Turn.{Turn as Verdict}
use Rattle.ldm_edits.specs.declared.batch.Turn.TheVariants as verdicts
use Rattle.ldm_edits.specs.declared.reply.Refusal.{Refusal}
use Rattle.ldm_edits.specs.declared.reply.Refusal.TheVariants as refusals
use Rattle.ldm_edits.specs.declared.stepping.Outcome.{Outcome}
use Rattle.ldm_edits.specs.declared.stepping.Outcome.TheVariants as outcomes
use Rattle.ldm_edits.specs.Steps.{StepsAs, FitsAsBefore, Keeps, IsDraftOf, VerdictKeeps, AnswersTo, next_of, held_at, change_in, begun, committed, verdict_of}

-- ---- the sequence put back

-- the rules and the room don't speak of the sequence
pub sound_at : (seq : ℕ) (db : Database) (labels : List Label) → IsSoundOn db labels → IsSoundOn (at_seq seq db) labels
sound_at seq db labels is = record { sound = is.sound; ends = is.ends; laid_out = is.laid_out; room = is.room; apart = is.apart; own = is.own }

-- ---- what each verdict keeps

-- two steps in a row of a last VBLK sequence that fits as before
fits_on : (labels : List Label) (a b c : ℕ) → FitsAsBefore labels a b → FitsAsBefore labels b c → FitsAsBefore labels a c
fits_on labels a b c first second k d lt fits = second k d lt (first k d lt fits)

-- a draft that is one change further
further : (labels : List Label) (db : Database) (draft : Drafted) (next : Database) → IsDraftOf labels db draft → Keeps labels draft.db next → next.header.seq < 2 ^ 64
    → IsDraftOf labels db (record { db = at_seq db.header.seq next; filled = true })
further labels db draft next is keeps low = record {
  sound = sound_at db.header.seq next labels keeps.sound;
  disks = is.disks ∙ keeps.disks;
  rises = (let first = is.rises in let second = keeps.rises in omega arith);
  fits = fits_on labels db.header.last draft.db.header.last next.header.last is.fits keeps.fits;
  header = ap (λ (h : Header). with_seq h db.header.seq) keeps.header ∙ ap (λ (h : Header). grown_to h next.header.last db.header.seq) is.header;
  unspent = λ filled. (let up = keeps.seq in let same = ap (λ (h : Header). h.seq) is.header in omega arith);
}

pub kept_held : (labels : List Label) (db : Database) (draft : Drafted) (outcome : Outcome) (step : Result Database Refusal) → IsDraftOf labels db draft → StepsAs outcome step
    → ((next : Database) → outcome ≡ outcomes.Next next → Keeps labels draft.db next) → ((next : Database) → outcome ≡ outcomes.Next next → next.header.seq < 2 ^ 64)
    → VerdictKeeps labels db (held_at db.header.seq step)
kept_held labels db draft (outcomes.Next next) step of is keeps low =
    subst (λ (r : Result Database Refusal). VerdictKeeps labels db (held_at db.header.seq r)) (sym is) (further labels db draft next of (keeps next refl) (low next refl))
kept_held labels db draft (outcomes.Refused refusal) step of is keeps low = subst (λ (r : Result Database Refusal). VerdictKeeps labels db (held_at db.header.seq r)) (sym is) tt

pub kept_begun : (labels : List Label) (db : Database) (draft : Option Drafted) → IsSoundOn db labels → VerdictKeeps labels db (begun db draft)
kept_begun labels db None sound = record {
  sound = sound;
  disks = refl;
  rises = omega arith;
  fits = λ k d lt fits. fits;
  header = refl;
  unspent = λ filled. absurd cc;
}
kept_begun labels db (Some draft) sound = tt

-- a draft with the next sequence
pub next_draft : (labels : List Label) (db : Database) (draft : Drafted) → IsDraftOf labels db draft → Keeps labels db (at_seq (db.header.seq + 1) draft.db)
next_draft labels db draft is = record {
  sound = sound_at (db.header.seq + 1) draft.db labels is.sound;
  disks = is.disks;
  rises = is.rises;
  fits = is.fits;
  header = ap (λ (h : Header). with_seq h (db.header.seq + 1)) is.header;
  seq = refl;
}

pub kept_committed : (labels : List Label) (db : Database) (draft : Option Drafted) → ForSome draft (IsDraftOf labels db) → VerdictKeeps labels db (committed db.header.seq draft)
kept_committed labels db None of = tt
kept_committed labels db (Some draft) of =
    elim draft.filled as (λ (b : Bool). VerdictKeeps labels db (if b then verdicts.Next (at_seq (db.header.seq + 1) draft.db) else verdicts.Refused refusals.EmptyBatch))
    [ true ↦ next_draft labels db draft (of draft refl) | false ↦ tt ]

-- ---- what calls answer

pub if_ok_as : {E : Type 0} (result : Result Verdict E) (a b : Verdict) → a ≡ b → IfOk result (λ turn. turn ≡ a) → IfOk result (λ turn. turn ≡ b)
if_ok_as (Err e) a b same is = tt
if_ok_as (Ok turn) a b same is = is ∙ same

pub held_kept : {E : Type 0} (labels : List Label) (db : Database) (draft : Drafted) (outcome : Outcome) (step : Result Database Refusal) (seq : ℕ) (turned : Result Verdict E) → IsDraftOf labels db draft
    → StepsAs outcome step → ((next : Database) → outcome ≡ outcomes.Next next → Keeps labels draft.db next) → ((next : Database) → outcome ≡ outcomes.Next next → next.header.seq < 2 ^ 64)
    → seq ≡ db.header.seq → ((r : Result Database Refusal) → StepsAs outcome r → IfOk turned (λ turn. turn ≡ held_at seq r)) → IfOk turned (VerdictKeeps labels db)
held_kept labels db draft outcome step seq (Err e) of is keeps low same held = tt
held_kept labels db draft outcome step seq (Ok turn) of is keeps low same held =
    subst (VerdictKeeps labels db) (sym (held step is ∙ ap (λ (n : ℕ). held_at n step) same)) (kept_held labels db draft outcome step of is keeps low)

pub begun_kept : {E : Type 0} (labels : List Label) (db : Database) (draft : Option Drafted) (result : Result Verdict E) → IsSoundOn db labels
    → IfOk result (λ turn. turn ≡ begun db draft) → IfOk result (VerdictKeeps labels db)
begun_kept labels db draft (Err e) sound is = tt
begun_kept labels db draft (Ok turn) sound is = subst (VerdictKeeps labels db) (sym is) (kept_begun labels db draft sound)

pub committed_kept : {E : Type 0} (labels : List Label) (db : Database) (draft : Option Drafted) (seq : ℕ) (result : Result Verdict E) → ForSome draft (IsDraftOf labels db)
    → seq ≡ db.header.seq → IfOk result (λ turn. turn ≡ committed seq draft) → IfOk result (VerdictKeeps labels db)
committed_kept labels db draft seq (Err e) of same is = tt
committed_kept labels db draft seq (Ok turn) of same is = subst (VerdictKeeps labels db) (sym (is ∙ ap (λ (n : ℕ). committed n draft) same)) (kept_committed labels db draft of)

-- what is no word of a batch is a change
pub change_verdict : (labels : List Label) (db : Database) (draft : Option Drafted) (command : Command) → (command ≡ Begin → ⊥) → (command ≡ Commit → ⊥) → (command ≡ Cancel → ⊥)
    → change_in labels db command draft ≡ verdict_of labels db draft command
unfolding verdict_of
change_verdict labels db draft (Create name guid layout) b c d = refl
change_verdict labels db draft (Extend name pieces) b c d = refl
change_verdict labels db draft (Delete name) b c d = refl
change_verdict labels db draft Begin b c d = absurd (b refl)
change_verdict labels db draft Commit b c d = absurd (c refl)
change_verdict labels db draft Cancel b c d = absurd (d refl)

-- ---- what calls answer where the batch is handed over

-- what is held of a change is what it comes to,
pub held_verdict : (labels : List Label) (db : Database) (draft : Drafted) (command : Command) → (command ≡ Begin → ⊥) → (command ≡ Commit → ⊥) → (command ≡ Cancel → ⊥)
    → IsDraftOf labels db draft
    → held_at draft.db.header.seq (next_of draft.db labels command) ≡ verdict_of labels db (Some draft) command
held_verdict labels db draft command b c d is =
    ap (λ (n : ℕ). held_at n (next_of draft.db labels command)) (ap (λ (h : Header). h.seq) is.header)
    ∙ change_verdict labels db (Some draft) command b c d

-- a change of a draft comes to a draft of the group, or is refused
change_kept : (labels : List Label) (db : Database) (draft : Drafted) (command : Command)
    → IsDraftOf labels db draft → IsGiven draft.db labels
    → IsCommand command → draft.db.header.seq < 2 ^ 64 - 1
    → VerdictKeeps labels db (held_at draft.db.header.seq (next_of draft.db labels command))
change_kept labels db draft command is given grammar low = go (next_of draft.db labels command) refl
  where
    go : (step : Result Database Refusal) → next_of draft.db labels command ≡ step
        → VerdictKeeps labels db (held_at draft.db.header.seq step)
    go (Err refusal) made = tt
    go (Ok next) made =
        let keeps : Keeps labels draft.db next = (command_done draft.db labels command next made).keeps given grammar in
        let up = keeps.seq in
        subst (λ (n : ℕ). IsDraftOf labels db (record { db = at_seq n next; filled = true }))
        (sym (ap (λ (h : Header). h.seq) is.header)) (further labels db draft next is keeps (omega arith))

-- the batch that is open, if any, is a draft of the group
abbrev AreDrafts : List Label → Database → Option Drafted → Type 0
AreDrafts labels db open' = ForSome open' (IsDraftOf labels db)

pub no_draft : (labels : List Label) (db : Database) (d : Drafted) → None ≡ Some d → IsDraftOf labels db d
no_draft labels db d is = absurd cc

some_draft : (labels : List Label) (db : Database) (draft : Drafted) → IsDraftOf labels db draft
    → AreDrafts labels db (Some draft)
some_draft labels db draft is d same = (let one : draft ≡ d = cc in subst (IsDraftOf labels db) one is)

-- the batch that is open behind a line is a draft of the group, where a line that is held comes to one
then_draft : (labels : List Label) (db : Database) (verdict : Verdict) (old : Option Drafted) (answer : Answer) (new : Option Drafted) → AreDrafts labels db old
    → (answer ≡ answers.Held → VerdictKeeps labels db verdict) → AnswersTo verdict old answer new → AreDrafts labels db new
then_draft labels db verdict old (answers.Next next) new of keeps is = subst (AreDrafts labels db) (sym is.1) of
then_draft labels db verdict old answers.Held new of keeps is =
    subst (AreDrafts labels db) (sym is.2) (some_draft labels db is.0 (subst (VerdictKeeps labels db) is.1 (keeps refl)))
then_draft labels db verdict old answers.Dropped new of keeps is = subst (AreDrafts labels db) (sym is.1) (no_draft labels db)
then_draft labels db verdict old (answers.Refused refusal) new of keeps is = subst (AreDrafts labels db) (sym is.1) of

-- the next group that a line answers with keeps what it should of the group
then_next : (labels : List Label) (db : Database) (verdict : Verdict) (old : Option Drafted) (answer : Answer) (new : Option Drafted) → VerdictKeeps labels db verdict
    → AnswersTo verdict old answer new → (next : Database) → answer ≡ answers.Next next → Keeps labels db next
then_next labels db verdict old (answers.Next made) new keeps is next same =
    (let one : made ≡ next = cc in subst (Keeps labels db) one (subst (VerdictKeeps labels db) is.0 keeps))
then_next labels db verdict old answers.Held new keeps is next same = absurd cc
then_next labels db verdict old answers.Dropped new keeps is next same = absurd cc
then_next labels db verdict old (answers.Refused refusal) new keeps is next same = absurd cc

-- a change
pub change_drafted : {E : Type 0} (labels : List Label) (db : Database) (draft : Drafted) (command : Command) (result : Result Answer E) (new : Option Drafted)
    → IsDraftOf labels db draft → IsGiven draft.db labels → IsCommand command
    → IfOk result (λ answer. AnswersTo (held_at draft.db.header.seq (next_of draft.db labels command)) (Some draft) answer new)
    → IfErr result (λ _. new ≡ Some draft) → IfOk result (λ answer. answer ≡ answers.Held → draft.db.header.seq < 2 ^ 64 - 1)
    → ForSome new (IsDraftOf labels db)
change_drafted labels db draft command (Err e) new of given grammar is unchanged unspent =
    subst (AreDrafts labels db) (sym unchanged) (some_draft labels db draft of)
change_drafted labels db draft command (Ok answer) new of given grammar is unchanged unspent =
    then_draft labels db (held_at draft.db.header.seq (next_of draft.db labels command)) (Some draft) answer new
    (some_draft labels db draft of)
    (λ held. change_kept labels db draft command of given grammar (unspent held)) is

module _ {E : Type 0} (labels : List Label) (db : Database) (old : Option Drafted) (new : Option Drafted) where
  -- what is answered of each verdict that it may be
  abbrev IsAnswered : Result Verdict E → Result Answer E → Type 0
  IsAnswered turned result = (verdict : Verdict) → IfOk turned (λ turn. turn ≡ verdict)
      → IfOk result (λ answer. AnswersTo verdict old answer new)

  -- one of them keeps what it should: where there is none, one that gives the batch up would do
  kept_one : (turned : Result Verdict E) (result : Result Answer E) → IfOk turned (VerdictKeeps labels db)
      → IsAnswered turned result
      → (verdict : Verdict) × VerdictKeeps labels db verdict × IfOk result (λ answer. AnswersTo verdict old answer new)
  kept_one (Ok turn) result keeps is = (turn, keeps, is turn refl)
  kept_one (Err e) result keeps is = (verdicts.GiveUp, tt, is verdicts.GiveUp tt)

  pub answered_kept : (turned : Result Verdict E) (result : Result Answer E) → IfOk turned (VerdictKeeps labels db)
      → IsAnswered turned result
      → IfOk result (λ answer. (next : Database) → answer ≡ answers.Next next → Keeps labels db next)
  answered_kept turned (Err e) keeps is = tt
  answered_kept turned (Ok answer) keeps is =
      (let one = kept_one turned (Ok answer) keeps is in then_next labels db one.0 old answer new one.1 one.2)

  pub answered_draft : (turned : Result Verdict E) (result : Result Answer E) → ForSome old (IsDraftOf labels db)
      → IfOk turned (VerdictKeeps labels db) → IsAnswered turned result
      → IfErr result (λ _. new ≡ old) → ForSome new (IsDraftOf labels db)
  answered_draft turned (Err e) of keeps is unchanged = subst (AreDrafts labels db) (sym unchanged) of
  answered_draft turned (Ok answer) of keeps is unchanged =
      (let one = kept_one turned (Ok answer) keeps is in then_draft labels db one.0 old answer new of (λ held. one.1) one.2)
