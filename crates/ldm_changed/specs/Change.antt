-- A body that takes the place of another.
use Rattle.std.specs.Prelude.{◌≡◌, ◌≢◌, ℕ, ◌+◌, ◌*◌, ◌/◌, ◌<◌, ◌≤◌, List, length, slice_index, All, AllPairs, Contains}
use Rattle.ldm_written.specs.Headers.{written}
use Rattle.ldm_group.specs.Database.{Database}
use Rattle.ldm_copy.specs.Copy.{header_sector}
use Rattle.ldm_body.specs.Body.{IsBodyOf, counts_of}
use Rattle.ldm_body.specs.Table.{IsTabled}

-- the new body, and the numbers of the blocks to write
pub record Changed : Type 0 where
  pub body : List ℕ
  pub numbers : List ℕ

-- the body has a header sector, and each number is that of one of its blocks
pub record IsChangedBody (body numbers : List ℕ) : Type 0 where
  pub some : 512 ≤ length body
  pub within : All (λ n. (4 ≤ n) × (128 * n + 128 ≤ length body)) numbers

-- each byte behind the header that is in no block of the list is that of the old body, which has it
pub record ChangesFrom (old : List ℕ) (change : Changed) : Type 0 where
  pub same : (k : ℕ) → 512 ≤ k → k < length change.body → All (λ n. n ≢ k / 128) change.numbers
      → (k < length old) × (slice_index change.body k ≡ slice_index old k)

-- these bytes and numbers are a change of the old body to one of the database, and the table has the slots of its records
pub record IsNextBody (old : List ℕ) (db : Database) (bytes numbers : List ℕ) (table : List (List ℕ)) : Type 0 where
  pub body : IsBodyOf db bytes
  pub tabled : IsTabled bytes table
  pub header : header_sector bytes ≡ written db.header db.header.seq (counts_of db.records)
  pub from : ChangesFrom old (record { body = bytes; numbers = numbers })
  pub added : (n : ℕ) → length old ≤ 128 * n → 128 * n + 128 ≤ length bytes → Contains numbers n
  pub apart : AllPairs (λ a b. a ≢ b) numbers
  pub change : IsChangedBody bytes numbers
