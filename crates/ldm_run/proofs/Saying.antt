-- What was heard and said, and how a run goes on.
use Rattle.std.proofs.Common.{[], ◌≡◌, ◌≢◌, inr, ℕ, List, ◌++◌, take, refl, sym, ◌∙◌, ap, subst, append_assoc, Bool, true, false, ◌||◌, ◌==◌, if◌then◌else◌, ◌⊎◌, ◌+◌, ◌<◌, ◌≤◌, length, arith}
use Rattle.std.proofs.lemmas.List.{append-nil, nil_from_length, length-append, length-take-le}
use Rattle.ldm_host.specs.Seen.{Seen, Heard}
use Rattle.ldm_host.specs.Moves.{Begins, Later, Still, Quiet, SameInput}
use Rattle.ldm_host.proofs.Relations.{begins_itself, rose_sooner, still_trans}
use Rattle.ldm_edits.specs.declared.reply.Reply.{Reply}
use Rattle.ldm_words.specs.declared.job.Format.{Format}
use Rattle.ldm_replies.specs.ReplyJson.{said_reply, said_replies}
use Rattle.ldm_words.specs.declared.status.Status.{Status}
use Rattle.ldm_words.specs.declared.status.Status.TheVariants.{Done, Refused, DiskFault, NoMemory, TalkFault}
use Rattle.ldm_look.specs.Said.{Answer, HasAnswer, SaysNothing}
use Rattle.ldm_run.specs.Said.{SaysReply}
use Rattle.ldm_look.proofs.EndLaws.{causes_since, not_fault, Failing, answers_as, says_part, part_begins}
use Rattle.ldm_run.specs.Heard.{TalkFails, Takes, Hears, HearsScript}
use Rattle.ldm_run.specs.Editing.{EditFails}
use Rattle.ldm_look.specs.Runs.{Ends, OnlyReads, Says}
use Rattle.ldm_run.specs.Runs.{Replies}
use Rattle.std.specs.List.{list_any}
use Rattle.ldm_run.specs.Scripts.{is_refused, status_of, replies_from}

-- ---- statuses

pub failing : (old new : Seen) (status : Status) → EditFails old new status → Failing old new status
failing old new DiskFault rose = record { none = λ has. has; no_usage = λ is. cc; causes = record { disk = λ is. rose; talk = λ is. absurd cc } }
failing old new TalkFault rose = record { none = λ has. has; no_usage = λ is. cc; causes = record { disk = λ is. absurd cc; talk = λ is. rose } }
failing old new NoMemory free = record { none = λ has. has; no_usage = λ is. cc; causes = record { disk = λ is. absurd cc; talk = λ is. absurd cc } }
failing old new other never = absurd never

-- a call that fails since a state fails since a sooner one
pub failing_since : {old mid new : Seen} {status : Status} → Later old mid → Failing mid new status → Failing old new status
failing_since {old} {mid} {new} {status} later fails = record { none = fails.none; no_usage = fails.no_usage; causes = causes_since old mid new status later fails.causes }

-- where no disk failed
pub talk_failing : (old new : Seen) (status : Status) → TalkFails old new status → Failing old new status × (status ≢ DiskFault)
talk_failing old new TalkFault rose = (failing old new TalkFault rose, λ is. cc)
talk_failing old new NoMemory free = (failing old new NoMemory free, λ is. cc)
talk_failing old new other never = absurd never

-- a fault of the talk since a later state
pub talk_edits : (old mid new : Seen) → Later old mid → (status : Status) → TalkFails mid new status → EditFails old new status
talk_edits old mid new later TalkFault rose = rose_sooner old.talk_faults mid.talk_faults new.talk_faults later.talk_faults rose
talk_edits old mid new later NoMemory free = tt
talk_edits old mid new later other never = absurd never

-- ---- how a job ends

-- an answer was said whole
pub ends_whole : {tells : Type 0} {old new : Seen} {answer : Answer} {status : Status} → HasAnswer status → (tells → status ≡ answer.1) → (tells → new.said ≡ old.said ++ answer.0) → Begins old.said new.said
    → Ends tells old new (λ a. a ≡ answer) status
ends_whole {tells} {old} {new} {answer} {status} has is said since = record {
  answers = λ told. record {
    whole = λ _. (answer, refl, record { status_is = is told; said = said told });
    since = since;
    front = inr (answer, refl, subst (λ (l : List ℕ). Begins new.said l) (said told) (begins_itself new.said));
  };
  no_usage = not_fault has (λ no. no);
  causes = record { disk = λ is. absurd (not_fault {fault = DiskFault} has (λ no. no) is); talk = λ is. absurd (not_fault {fault = TalkFault} has (λ no. no) is) };
}

-- ---- what only says an answer

-- what is an answer of one kind may be one of another
pub says_as : {talks tells : Type 0} {IsSilent : Status → Type 0} {old new : Seen} {IsOne IsOther : Answer → Type 0} {status : Status} → Says talks IsSilent old new IsOne status
    → (tells → talks) → (tells → (answer : Answer) → IsOne answer → IsOther answer) → Says tells IsSilent old new IsOther status
says_as {talks} {tells} {IsSilent} {old} {new} {IsOne} {IsOther} {status} says both turn = record {
  ends = record { answers = λ told. answers_as old old new IsOne IsOther status refl (turn told) (says.ends.answers (both told)); no_usage = says.ends.no_usage; causes = says.ends.causes };
  silent = says.silent;
  still = says.still;
  input = says.input;
}

-- what is said at once is said after all that may fail
pub says_at_once : {tells : Type 0} {fault : Status} {old new : Seen} {IsOne : Answer → Type 0} {status : Status} → SaysNothing fault → OnlyReads tells old new IsOne status
    → Says tells (λ s. s ≡ fault) old new IsOne status
says_at_once none reads = record { ends = reads.ends; silent = λ is. reads.silent (subst SaysNothing (sym is) none); still = reads.still; input = reads.input }

-- all was said
pub says_all : {tells : Type 0} {fault : Status} {old new : Seen} {answer : Answer} {status : Status} → (HasAnswer fault → ⊥) → HasAnswer status → (tells → status ≡ answer.1) → (tells → new.said ≡ old.said ++ answer.0)
    → Still old new → SameInput old new → Says tells (λ s. s ≡ fault) old new (λ a. a ≡ answer) status
says_all {fault = fault} none has is said still input = record {
  ends = ends_whole has is said still.later.said;
  silent = λ is. absurd (not_fault {fault = fault} has none is);
  still = still;
  input = input;
}

-- a part of the text of a reply was said, or all
pub reply_part : {format : Format} {old new : Seen} (number : ℕ) (reply : Reply) {bytes : List ℕ} (n : ℕ) → bytes ≡ said_reply format (number, reply) → new.said ≡ old.said ++ take n bytes → Still old new → SameInput old new
    → SaysReply format number reply old new
reply_part {format} {old} {new} number reply n is said still input = record {
  front = part_begins old.said (said_reply format (number, reply)) new.said n (said ∙ ap (λ (l : List ℕ). old.said ++ take n l) is);
  still = still;
  input = input;
}

-- ---- How replies to the lines of a script end.

-- ---- statuses

pub has_answer : (refused : Bool) → HasAnswer (if refused then Refused else Done)
has_answer true = tt
has_answer false = tt

pub or_false : (b : Bool) → (b || false) ≡ b
or_false true = refl
or_false false = refl

-- no line is left
pub all_replied : {tells : Type 0} {old new : Seen} (format : Format) (all left : List Reply) (number : ℕ) (refused : Bool) → left ≡ [] → (refused || list_any is_refused left) ≡ list_any is_refused all
    → (tells → new.said ++ said_replies format number left ≡ old.said ++ said_replies format 1 all) → Still old new → SameInput old new
    → Replies tells old new (λ answer. answer ≡ replies_from format 1 all) (if refused then Refused else Done)
all_replied {tells} {old} {new} format all left number refused none is so_far still input =
    let any : list_any is_refused all ≡ refused = sym is ∙ ap (λ (rs : List Reply). refused || list_any is_refused rs) none ∙ or_false refused in
    let status : status_of all ≡ (if refused then Refused else Done) = ap (λ (b : Bool). if b then Refused else Done) any in
    says_all (λ no. no) (has_answer refused) (λ told. sym status)
    (λ told. sym (append-nil new.said) ∙ ap (λ (rs : List Reply). new.said ++ said_replies format number rs) (sym none) ∙ so_far told) still input

-- memory or the talk failed
pub stopped : {tells : Type 0} {old new : Seen} {answer : Answer} {status : Status} → TalkFails old new status → (tells → Begins new.said (old.said ++ answer.0)) → Still old new
    → SameInput old new → Replies tells old new (λ a. a ≡ answer) status
stopped {old = old} {new = new} {status = status} failed front still input = (let end = talk_failing old new status failed in says_part end.1 end.0 front still input)

-- ---- What is heard piece by piece.

-- n bytes more were heard
pub takes_more : (old mid new : Seen) (taken bytes : List ℕ) (n : ℕ) → Takes old mid taken → n ≤ length bytes → mid.input ≡ take n bytes ++ new.input → new.heard.bytes ≡ mid.heard.bytes ++ take n bytes
    → length taken + n ≤ 1048577 → Takes old new (taken ++ take n bytes)
takes_more old mid new taken bytes n first within input heard few = record {
  input = first.input ∙ ap (λ (l : List ℕ). taken ++ l) input ∙ sym (append_assoc taken (take n bytes) new.input);
  heard = heard ∙ ap (λ (l : List ℕ). l ++ take n bytes) first.heard ∙ append_assoc old.heard.bytes taken (take n bytes);
  few = omega (arith, few, length-append taken (take n bytes), length-take-le n bytes within);
}

-- they were heard by a call of the host
pub hears_more : {talks : Type 0} {old mid new : Seen} {taken : List ℕ} (bytes : List ℕ) (n : ℕ) → Hears talks old mid taken → n ≤ length bytes → length taken + n ≤ 1048577
    → (talks → (mid.input ≡ take n bytes ++ new.input) × (new.heard.bytes ≡ mid.heard.bytes ++ take n bytes) × (n ≡ 0 → length mid.input ≡ 0) × (new.heard.ended ≡ mid.heard.ended || n == 0)) → new.said ≡ mid.said → Still mid new → Hears talks old new (taken ++ take n bytes)
hears_more {talks} {old} {mid} {new} {taken} bytes n first within few heard silent still = record {
  takes = λ told. takes_more old mid new taken bytes n (first.takes told) within (heard told).0 (heard told).1 few;
  silent = silent ∙ first.silent;
  still = still_trans old mid new first.still still;
}

-- a call that hears nothing changes nothing of it
pub takes_on : {old mid new : Seen} {taken : List ℕ} → Takes old mid taken → SameInput mid new → Takes old new taken
takes_on {taken = taken} first same = record {
  input = first.input ∙ ap (λ (l : List ℕ). taken ++ l) (sym same.input);
  heard = ap (λ (h : Heard). h.bytes) same.heard ∙ first.heard;
  few = first.few;
}

pub hears_on : {talks : Type 0} {old mid new : Seen} {taken : List ℕ} → Hears talks old mid taken → Quiet mid new → Still mid new → Hears talks old new taken
hears_on {talks} {old} {mid} {new} first quiet still = record {
  takes = λ told. takes_on (first.takes told) (record { input = quiet.input; heard = quiet.heard });
  silent = quiet.said ∙ first.silent;
  still = still_trans old mid new first.still still;
}

-- the input is too long where so much of it was heard
pub too_long : (old new : Seen) (taken : List ℕ) → Takes old new taken → 1048576 < length taken → 1048576 < length old.input
too_long old new taken takes long = omega (arith, long, ap length takes.input, length-append taken new.input)

-- what was heard is all where nothing is left
pub at_end : (old mid new : Seen) (script piece : List ℕ) → Takes old mid script → mid.input ≡ piece ++ new.input → length mid.input ≡ 0 → (script ≡ old.input) × (new.input ≡ [])
at_end old mid new script piece takes input none = (
  sym (takes.input ∙ ap (λ (l : List ℕ). script ++ l) (nil_from_length mid.input none) ∙ append-nil script),
  nil_from_length new.input (omega (arith, none, ap length input, length-append piece new.input)),
)

-- the end of the input was heard, since a call heard no byte of it
pub heard_end : (n : ℕ) (before after : Bool) → after ≡ before || n == 0 → n ≡ 0 → after ≡ true
heard_end n before after is none = is ∙ ap (λ (k : ℕ). before || k == 0) none ∙ or_true before
  where
    or_true : (b : Bool) → (b || true) ≡ true
    or_true true = refl
    or_true false = refl

-- ---- all of it

-- after the script was heard nothing more is
pub heard_script : {old mid new : Seen} {taken : List ℕ} {status : Status} → Takes old mid taken → SameInput mid new → (HasAnswer status → (new.input ≡ []) ⊎ (1048576 < length old.input))
    → (1048576 < length old.input → status ≢ DiskFault) → ((1048576 < length old.input) ⊎ (new.input ≢ []) → new.wrote ≡ old.wrote) → (mid.heard.ended ≡ false → new.wrote ≡ old.wrote) → HearsScript old new status
heard_script {taken = taken} takes same whole no_disk unwritten too_soon = record {
  taken = taken;
  takes = takes_on takes same;
  whole = whole;
  no_disk = no_disk;
  unwritten = unwritten;
  too_soon = λ not_ended. too_soon (sym (ap (λ (h : Heard). h.ended) same.heard) ∙ not_ended);
}

-- it was not heard whole
pub unheard_script : {old new : Seen} {taken : List ℕ} {status : Status} → Takes old new taken → (HasAnswer status → ⊥) → status ≢ DiskFault → new.wrote ≡ old.wrote → HearsScript old new status
unheard_script {taken = taken} takes none no_disk wrote = record { taken = taken; takes = takes; whole = λ has. absurd (none has); no_disk = λ long. no_disk; unwritten = λ some. wrote; too_soon = λ not_ended. wrote }
