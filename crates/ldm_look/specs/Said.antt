-- What is answered: a text and a status.
use Rattle.std.specs.Prelude.{ℕ, List}
use Rattle.ldm_text.specs.Texts.{text_of_refusal}
use Rattle.ldm_words.specs.declared.status.Status.{Status}
use Rattle.ldm_words.specs.declared.status.Status.TheVariants.{Done, Refused, Usage, DiskFault, NoMemory, TalkFault}

-- a text and a status
abbrev pub Answer : Type 0
Answer = List ℕ × Status

-- the line that refuses for this reason
abbrev pub refused : List ℕ → Answer
refused reason = (text_of_refusal reason, Refused)

-- the statuses that an answer may have
abbrev pub HasAnswer : Status → Type 0
HasAnswer Done = Unit {0}
HasAnswer Refused = Unit {0}
HasAnswer Usage = ⊥
HasAnswer DiskFault = ⊥
HasAnswer NoMemory = ⊥
HasAnswer TalkFault = ⊥

-- the statuses with which a job that only reads said nothing
abbrev pub SaysNothing : Status → Type 0
SaysNothing Done = ⊥
SaysNothing Refused = ⊥
SaysNothing Usage = Unit {0}
SaysNothing DiskFault = Unit {0}
SaysNothing NoMemory = Unit {0}
SaysNothing TalkFault = ⊥

-- the statuses of words that weren't read
abbrev pub IsUnread : Status → Type 0
IsUnread Usage = Unit {0}
IsUnread NoMemory = Unit {0}
IsUnread _ = ⊥
