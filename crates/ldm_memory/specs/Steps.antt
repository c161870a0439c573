-- What the steps of a call of a host in memory do.
use Rattle.std.specs.Prelude.{◌≡◌, ℕ, ◌+◌, List, [], ◌∷◌, ◌++◌, ◌&&◌, not, length, set, take, drop, Bool, true, false, if◌then◌else◌, Vec}
use Rattle.std.specs.declared.alloc.Global.{Global}
use Rattle.ldm_bytes.specs.Places.{put}
use Rattle.ldm_memory.specs.declared.call.Call.{Call}
use Rattle.ldm_memory.specs.declared.call.Call.TheVariants.{Write, Sync, Hear, Say}
use Rattle.ldm_memory.specs.declared.outcome.Outcome.{Outcome}
use Rattle.ldm_memory.specs.declared.outcome.Outcome.TheVariants.{Whole, Half, Nothing}
use Rattle.ldm_host.specs.Seen.{image}
use Rattle.ldm_host.specs.declared.host.DiskRange.{DiskRange}
use Rattle.ldm_memory.specs.Plan.{next}
use Rattle.ldm_memory.specs.Ending.{first_half}

-- A call of this kind was kept in the list, or it found no memory and the list is as it was.
abbrev pub AddsCall : Bool → (Call → Type 0) → List Call → List Call → Type 0
AddsCall true is old new = (call : Call) × is call × (new ≡ old ++ call ∷ [])
AddsCall false is old new = new ≡ old

abbrev pub IsNothing : Call → Type 0
IsNothing call = call ≡ Call.Nothing

-- these bytes were taken at the front of a range of this length
abbrev pub IsWriteOf : ℕ → ℕ → List ℕ → ℕ → Call → Type 0
IsWriteOf disk at taken asked call = (copy : Vec ℕ Global) × (call ≡ Write disk at copy asked) × (copy.items ≡ taken)

-- as many of these bytes were written as the outcome says
abbrev pub IsWrite : Outcome → ℕ → ℕ → List ℕ → Call → Type 0
IsWrite Whole disk at bytes call = IsWriteOf disk at bytes (length bytes) call
IsWrite Half disk at bytes call = IsWriteOf disk at (first_half bytes) (length bytes) call
IsWrite Nothing disk at bytes call = IsNothing call

abbrev pub IsSync : Outcome → ℕ → Call → Type 0
IsSync Whole disk call = call ≡ Sync disk
IsSync Half disk call = IsNothing call
IsSync Nothing disk call = IsNothing call

-- where the outcome is whole, some more bytes of the script were heard than before, else none
abbrev pub IsHear : Outcome → ℕ → ℕ → Call → Type 0
IsHear Whole heard later call = (count : ℕ) × (call ≡ Hear count) × (later ≡ heard + count)
IsHear Half heard later call = IsNothing call × (later ≡ heard)
IsHear Nothing heard later call = IsNothing call × (later ≡ heard)

-- n bytes of the script, the next, were moved to the front of the buffer
abbrev pub Moved : List ℕ → ℕ → ℕ → ℕ → List ℕ → Type 0
Moved script heard later n buf = (drop heard script ≡ take n buf ++ drop later script)
    × (take later script ≡ take heard script ++ take n buf)
    × (n ≡ 0 → length (drop heard script) ≡ 0)
    × (later ≡ heard + n)

-- these bytes were said
abbrev pub IsSayOf : List ℕ → Call → Type 0
IsSayOf bytes call = (copy : Vec ℕ Global) × (call ≡ Say copy) × (copy.items ≡ bytes)

-- as many of these bytes were said as the outcome says
abbrev pub IsSay : Outcome → List ℕ → Call → Type 0
IsSay Whole bytes call = IsSayOf bytes call
IsSay Half bytes call = IsSayOf (first_half bytes) call
IsSay Nothing bytes call = IsNothing call

-- a call takes all its bytes
abbrev pub is_whole : Outcome → Bool
is_whole Whole = true
is_whole Half = false
is_whole Nothing = false

-- How a read ends that is to fail, or isn't, and whether it was Ok: one that failed is in the account and counted. Where
-- there is no memory for the account it reads.
pub record EndsRead (fails ok : Bool) (range : DiskRange) (old new : List DiskRange) (faults more dry later : ℕ) : Type 0 where
  pub ran_dry : Bool
  pub ok_is : ok ≡ not (fails && not ran_dry)
  pub failed : new ≡ (if ok then old else old ++ range ∷ [])
  pub faults_are : more ≡ (if ok then faults else next faults)
  pub dry_is : later ≡ (if ran_dry then next dry else dry)

-- the images, with these bytes in one of them where memory was found
abbrev pub bytes_placed : Bool → ℕ → ℕ → List ℕ → List (List ℕ) → List (List ℕ)
bytes_placed found disk at taken held = if found then set held disk (put (image held disk) at taken) else held

-- the images, with as many of the bytes in one of them as the outcome says
abbrev pub held_after : Outcome → Bool → ℕ → ℕ → List ℕ → List (List ℕ) → List (List ℕ)
held_after Whole found disk at bytes held = bytes_placed found disk at bytes held
held_after Half found disk at bytes held = bytes_placed found disk at (first_half bytes) held
held_after Nothing found disk at bytes held = held

-- what was said, and these bytes where memory was found
abbrev pub said_more : Bool → List ℕ → List ℕ → List ℕ
said_more found bytes said = if found then said ++ bytes else said

-- what was said, and as many of these bytes as the outcome says
abbrev pub said_after : Outcome → Bool → List ℕ → List ℕ → List ℕ
said_after Whole found bytes said = said_more found bytes said
said_after Half found bytes said = said_more found (first_half bytes) said
said_after Nothing found bytes said = said
