-- What a joiner was fed.
use Rattle.std.specs.Prelude.{◌≡◌, ℕ, ◌*◌, ◌<◌, ◌≤◌, List, length, Option, None}
use Rattle.ldm_frags.specs.declared.faults.FragError.{FragError}
use Rattle.ldm_frags.specs.Blocks.{count, has_magic, group, part, parts, payload}
use Rattle.ldm_frags.specs.Faults.{block_fault, first_below}

-- how many blocks it takes, blocks that say what it keeps of those it was fed, and the error that it answered
pub record Fed : Type 0 where
  pub limit : ℕ
  pub blocks : List ℕ
  pub failed : Option FragError

-- block j of one list reads as block k of another, but for its sequence, and for the payload of an unused block
pub record IsSameBlock (a : List ℕ) (j : ℕ) (b : List ℕ) (k : ℕ) : Type 0 where
  pub magic : has_magic a j ≡ has_magic b k
  pub group : group a j ≡ group b k
  pub part : part a j ≡ part b k
  pub payload : 1 ≤ parts b k → payload a j ≡ payload b k
  pub parts : parts a j ≡ parts b k

-- the joiner was fed these whole blocks, of which none has a fault, and it takes more
pub record IsFed (joiner : Fed) (blocks : List ℕ) : Type 0 where
  pub whole : length blocks ≡ 128 * count blocks
  pub many : count joiner.blocks ≡ count blocks
  pub same : (k : ℕ) → k < count blocks → IsSameBlock joiner.blocks k blocks k
  pub sound : first_below (count blocks) (block_fault blocks) ≡ None
  pub going : joiner.failed ≡ None
