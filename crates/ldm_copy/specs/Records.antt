-- The records that joined payloads spell, in their order, and the first that spells none.
use Rattle.std.specs.Prelude.{◌≡◌, ◌⊎◌, ℕ, List, [], ◌∷◌, slice_index}
use Rattle.ldm_frags.specs.declared.faults.Joined.{Joined}
use Rattle.ldm_frags.specs.Joins.{Joins}
use Rattle.ldm_records.specs.declared.types.Record.{Record}
use Rattle.ldm_payloads.specs.declared.fault.RecordFault.{RecordFault}
use Rattle.ldm_payloads.specs.declared.fault.RecordFault.TheVariants.{UnknownType, Malformed}
use Rattle.ldm_records.specs.Plain.{Spells}
use Rattle.ldm_records.specs.Views.{plain_of}
use Rattle.ldm_payloads.specs.Answers.{IsUnknown}

-- each payload spells the record at its place
abbrev pub SpellRecords : List Joined → List Record → Type 0
SpellRecords [] [] = Unit {0}
SpellRecords (joined ∷ list) (r ∷ records) = Spells (plain_of r) joined.payload × SpellRecords list records
SpellRecords _ _ = ⊥

-- what a fault says of a payload: its type byte is none of the seven, or otherwise it spells no record
abbrev pub HasFault : List ℕ → RecordFault → Type 0
HasFault payload (UnknownType type) = IsUnknown payload × (type ≡ slice_index payload 3)
HasFault payload Malformed = (IsUnknown payload → ⊥) × ((r : Record) → Spells (plain_of r) payload → ⊥)

-- the first payload that spells no record has this fault and stands at this block
abbrev pub IsFirstFault : List Joined → ℕ → RecordFault → Type 0
IsFirstFault [] block fault = ⊥
IsFirstFault (joined ∷ list) block fault =
    (HasFault joined.payload fault × (joined.block ≡ block))
    ⊎ (((r : Record) × Spells (plain_of r) joined.payload) × IsFirstFault list block fault)

-- the blocks are joined, and their payloads spell these records
pub record HoldRecords (blocks : List ℕ) (records : List Record) : Type 0 where
  pub list : List Joined
  pub joined : Joins blocks list
  pub spelled : SpellRecords list records

-- the blocks are joined, and the first record that doesn't read stands at this block
pub record HoldBadRecord (blocks : List ℕ) (block : ℕ) (fault : RecordFault) : Type 0 where
  pub list : List Joined
  pub joined : Joins blocks list
  pub first : IsFirstFault list block fault
