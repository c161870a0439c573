-- What is heard of a script.
use Rattle.std.specs.Prelude.{◌≡◌, ◌≢◌, ◌⊎◌, true, false, ℕ, ◌<◌, ◌≤◌, List, [], ◌++◌, length, Option, Some, None}
use Rattle.ldm_host.specs.Seen.{Seen}
use Rattle.ldm_host.specs.Moves.{Rose, Still}
use Rattle.ldm_look.specs.Said.{HasAnswer}
use Rattle.ldm_words.specs.declared.status.Status.{Status}
use Rattle.ldm_words.specs.declared.status.Status.TheVariants.{DiskFault, NoMemory, TalkFault}

-- The bytes that were heard stood at the front of the input. They are at most one more than a script may have.
pub record Takes (old new : Seen) (taken : List ℕ) : Type 0 where
  pub input : old.input ≡ taken ++ new.input
  pub heard : new.heard.bytes ≡ old.heard.bytes ++ taken
  pub few : length taken ≤ 1048577

-- These bytes are heard. No disk is changed, and nothing is said.
pub record Hears (talks : Type 0) (old new : Seen) (taken : List ℕ) : Type 0 where
  pub takes : talks → Takes old new taken
  pub silent : new.said ≡ old.said
  pub still : Still old new

-- The script that was heard is all that was left of the input, to its end; there is none where that is too long.
abbrev pub IsScript : Option (List ℕ) → Seen → Seen → Type 0
IsScript (Some script) old new = (script ≡ old.input) × (new.input ≡ []) × (new.heard.ended ≡ true)
IsScript None old new = 1048576 < length old.input

-- the talk failed, or memory did
abbrev pub TalkFails : Seen → Seen → Status → Type 0
TalkFails old new TalkFault = Rose old.talk_faults new.talk_faults
TalkFails old new NoMemory = Unit {0}
TalkFails old new _ = ⊥

-- Some of the input is heard. Where there is an answer, it was heard to its end, or the script is too long. A script that is
-- too long is refused before any disk is called, so no disk fails then. No byte is handed to a disk where the script is too
-- long, or where some of it is left, or before its end was heard.
pub record HearsScript (old new : Seen) (status : Status) : Type 0 where
  pub taken : List ℕ
  pub takes : Takes old new taken
  pub whole : HasAnswer status → (new.input ≡ []) ⊎ (1048576 < length old.input)
  pub no_disk : 1048576 < length old.input → status ≢ DiskFault
  pub unwritten : (1048576 < length old.input) ⊎ (new.input ≢ []) → new.wrote ≡ old.wrote
  pub too_soon : new.heard.ended ≡ false → new.wrote ≡ old.wrote
