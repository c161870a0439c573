-- What a command makes of a group, and what the lines of a script make of it one after another.
use Rattle.std.specs.Prelude.{◌≡◌, ◌+◌, ◌-◌, ◌*◌, ◌^◌, ◌<◌, ◌≤◌, ℕ, true, false, All, List, [], ◌∷◌, Option, Some, None, Result, Ok, Err, if◌then◌else◌}
use Rattle.std.specs.Option.{ForSome}
use Rattle.ldm_vmdb.specs.Headers.{grown_to}
use Rattle.ldm_label.specs.declared.Label.{Label}
use Rattle.ldm_group.specs.Database.{Database, at_seq}
use Rattle.ldm_group.specs.Looks.{volume_named, HasSameDisks}
use Rattle.ldm_rules.specs.Facts.{IsSoundOn}
use Rattle.ldm_words.specs.declared.command.Command.{Command}
use Rattle.ldm_words.specs.declared.command.Command.TheVariants.{Create, Extend, Delete, Begin, Commit, Cancel}
use Rattle.ldm_edits.specs.declared.reply.Refusal.{Refusal}
use Rattle.ldm_edits.specs.declared.reply.Refusal.TheVariants.{BadLine, BatchOpen, NoBatch, EmptyBatch}
use Rattle.ldm_edits.specs.declared.reply.Reply.{Reply}
use Rattle.ldm_edits.specs.declared.reply.Reply.TheVariants as replies
use Rattle.ldm_edits.specs.declared.stepping.Outcome.{Outcome}
use Rattle.ldm_edits.specs.declared.stepping.Outcome.TheVariants as outcomes
use Rattle.ldm_edits.specs.declared.batch.Answer.{Answer}
use Rattle.ldm_edits.specs.declared.batch.Answer.TheVariants as answers
use Rattle.ldm_edits.specs.declared.batch.Turn.{Turn as Verdict}
use Rattle.ldm_edits.specs.declared.batch.Turn.TheVariants as verdicts
use Rattle.ldm_edits.specs.Changes.{AreasFit}
use Rattle.ldm_edits.specs.Creating.{created}
use Rattle.ldm_edits.specs.Extended.{extended}
use Rattle.ldm_edits.specs.Deleting.{deleted}
use Rattle.ldm_edits.specs.Drafts.{Drafted}

-- the group after a change, or the first reason that it is refused; a word of a batch is no change
unfoldable pub next_of : Database → List Label → Command → Result Database Refusal
next_of db labels (Create name guid layout) = created db labels name guid layout
next_of db labels (Extend name pieces) = extended db labels pieces (volume_named name db.records)
next_of db labels (Delete name) = deleted db labels (volume_named name db.records)
next_of db labels Begin = Err BadLine
next_of db labels Commit = Err BadLine
next_of db labels Cancel = Err BadLine

-- exactly that is answered
abbrev pub StepsAs : Outcome → Result Database Refusal → Type 0
StepsAs (outcomes.Next next) step = step ≡ Ok next
StepsAs (outcomes.Refused refusal) step = step ≡ Err refusal

-- a last VBLK sequence that fits each config area that the one before fits
abbrev pub FitsAsBefore : List Label → ℕ → ℕ → Type 0
FitsAsBefore labels last next = All (λ label. last ≤ 4 * label.area_sectors → next ≤ 4 * label.area_sectors) labels

-- What a command keeps of a group: it is as sound as before, its disks are the same, its last VBLK sequence is no less, and fits each
-- area that the one before fits. Its sequence is the next. The rest of the header stays.
-- So what an image's label and the disks say of the group stays, and what may be edited still may be.
pub record Keeps (labels : List Label) (old next : Database) : Type 0 where
  pub sound : IsSoundOn next labels
  pub disks : HasSameDisks old.records next.records
  pub rises : old.header.last ≤ next.header.last
  pub fits : FitsAsBefore labels old.header.last next.header.last
  pub header : next.header ≡ grown_to old.header next.header.last (old.header.seq + 1)
  pub seq : next.header.seq ≡ old.header.seq + 1

-- ---- batches

-- what a change comes to where no batch is open
abbrev pub at_once : Result Database Refusal → Verdict
at_once (Ok next) = verdicts.Next next
at_once (Err refusal) = verdicts.Refused refusal

-- what a change comes to in a batch: it changes the draft alone, which keeps the sequence
abbrev pub held_at : ℕ → Result Database Refusal → Verdict
held_at seq (Ok next) = verdicts.Hold (record { db = at_seq seq next; filled = true })
held_at seq (Err refusal) = verdicts.Refused refusal

abbrev pub change_in : List Label → Database → Command → Option Drafted → Verdict
change_in labels db command None = at_once (next_of db labels command)
change_in labels db command (Some draft) = held_at db.header.seq (next_of draft.db labels command)

-- begin opens a batch
abbrev pub begun : Database → Option Drafted → Verdict
begun db None = verdicts.Hold (record { db = db; filled = false })
begun db (Some draft) = verdicts.Refused BatchOpen

-- commit makes the draft the group, which goes one further
abbrev pub committed : ℕ → Option Drafted → Verdict
committed seq None = verdicts.Refused NoBatch
committed seq (Some draft) = if draft.filled then verdicts.Next (at_seq (seq + 1) draft.db) else verdicts.Refused EmptyBatch

-- cancel gives the batch up
abbrev pub cancelled : Option Drafted → Verdict
cancelled None = verdicts.Refused NoBatch
cancelled (Some draft) = verdicts.GiveUp

-- what a change or a word of a batch comes to, where this batch is open
unfoldable pub verdict_of : List Label → Database → Option Drafted → Command → Verdict
verdict_of labels db draft Begin = begun db draft
verdict_of labels db draft Commit = committed db.header.seq draft
verdict_of labels db draft Cancel = cancelled draft
verdict_of labels db draft (Create name guid layout) = change_in labels db (Create name guid layout) draft
verdict_of labels db draft (Extend name pieces) = change_in labels db (Extend name pieces) draft
verdict_of labels db draft (Delete name) = change_in labels db (Delete name) draft

-- A draft of a group is as sound, on the same disks, with the same header but for the last VBLK sequence, which is no less and fits
-- each area that the group's fits. Where it has held a command, there is a next sequence.
pub record IsDraftOf (labels : List Label) (db : Database) (draft : Drafted) : Type 0 where
  pub sound : IsSoundOn draft.db labels
  pub disks : HasSameDisks db.records draft.db.records
  pub rises : db.header.last ≤ draft.db.header.last
  pub fits : FitsAsBefore labels db.header.last draft.db.header.last
  pub header : draft.db.header ≡ grown_to db.header draft.db.header.last db.header.seq
  pub unspent : draft.filled ≡ true → db.header.seq < 2 ^ 64 - 1

-- what is kept of a group by what a line comes to
abbrev pub VerdictKeeps : List Label → Database → Verdict → Type 0
VerdictKeeps labels db (verdicts.Next next) = Keeps labels db next
VerdictKeeps labels db (verdicts.Hold draft) = IsDraftOf labels db draft
VerdictKeeps labels db verdicts.GiveUp = Unit {0}
VerdictKeeps labels db (verdicts.Refused refusal) = Unit {0}

-- a line with this verdict, to which the batch was handed over, has this answer, and then this batch is open
abbrev pub AnswersTo : Verdict → Option Drafted → Answer → Option Drafted → Type 0
AnswersTo verdict old (answers.Next next) new = (verdict ≡ verdicts.Next next) × (new ≡ old)
AnswersTo verdict old answers.Held new = (draft : Drafted) × (verdict ≡ verdicts.Hold draft) × (new ≡ Some draft)
AnswersTo verdict old answers.Dropped new = (verdict ≡ verdicts.GiveUp) × (new ≡ None)
AnswersTo verdict old (answers.Refused refusal) new = (verdict ≡ verdicts.Refused refusal) × (new ≡ old)

-- ---- scripts

-- what is kept of a group from line to line: where a batch is open, its draft too
pub record State : Type 0 where
  pub db : Database
  pub draft : Option Drafted

-- what lines do: the state after them, and the reply to each
pub record Turns : Type 0 where
  pub state : State
  pub replies : List Reply

-- the state after one line and the reply to it
pub record Turn : Type 0 where
  pub state : State
  pub reply : Reply

abbrev pub state_by : State → Verdict → State
state_by state (verdicts.Next next) = record { db = next; draft = None }
state_by state (verdicts.Hold draft) = record { db = state.db; draft = Some draft }
state_by state verdicts.GiveUp = record { db = state.db; draft = None }
state_by state (verdicts.Refused refusal) = state

abbrev pub reply_by : Verdict → Reply
reply_by (verdicts.Next next) = replies.Done next.header.seq
reply_by (verdicts.Hold draft) = replies.Held
reply_by verdicts.GiveUp = replies.Dropped
reply_by (verdicts.Refused refusal) = replies.Refused refusal

abbrev pub turn_by : State → Verdict → Turn
turn_by state verdict = record { state = state_by state verdict; reply = reply_by verdict }

-- a line that has no reading changes nothing, as one that is refused
abbrev pub turn_of : List Label → State → Option Command → Turn
turn_of labels state (Some command) = turn_by state (verdict_of labels state.db state.draft command)
turn_of labels state None = record { state = state; reply = replies.Refused BadLine }

abbrev pub after_turn : Turn → Turns → Turns
after_turn turn rest = record rest { replies = turn.reply ∷ rest.replies }

unfoldable pub turns_of : List Label → State → List (Option Command) → Turns
turns_of labels state [] = record { state = state; replies = [] }
turns_of labels state (line ∷ lines) = after_turn (turn_of labels state line) (turns_of labels (turn_of labels state line).state lines)

-- the replies to lines, from this state on
abbrev pub replies_in : List Label → State → List (Option Command) → List Reply
replies_in labels state lines = (turns_of labels state lines).replies

-- a group where no batch is open
abbrev pub fresh : Database → State
fresh db = record { db = db; draft = None }

-- the group after these lines, where a batch that is open counts for nothing
abbrev pub group_after : List Label → Database → List (Option Command) → Database
group_after labels db lines = (turns_of labels (fresh db) lines).state.db

-- the replies to them
abbrev pub replies_to : List Label → Database → List (Option Command) → List Reply
replies_to labels db lines = replies_in labels (fresh db) lines

-- the group of a state is sound, no config area is larger than the database of its image, and a batch that is open is a draft of the group
pub record IsGood (labels : List Label) (state : State) : Type 0 where
  pub sound : IsSoundOn state.db labels
  pub areas : AreasFit labels
  pub draft : ForSome state.draft (IsDraftOf labels state.db)
