-- The blocks of a database, in bytes, and the fields of a block's head: the text `VBLK`, sequence u32
-- at 4, group u32 at 8, part u16 at 12 and parts u16 at 14. Block k of the list has the number k + 4,
-- since the blocks in use begin with number 4. And a block as it is written, with these fields.
use Rattle.std.specs.Prelude.{ℕ, zero, suc, ◌+◌, ◌*◌, ◌/◌, ◌==◌, Bool, true, false, not, ◌&&◌, ◌||◌, List, [], ◌∷◌, length, nat_le, slice_range, if◌then◌else◌, ◌-◌, ◌++◌, take, drop, codes}
use Rattle.ldm_bytes.specs.Places.{u16_at, u32_at}
use Rattle.byteorder.specs.Endian.{big_bytes}

abbrev pub count : List ℕ → ℕ
count blocks = length blocks / 128

-- the text `VBLK`, read as a number
abbrev pub has_magic : List ℕ → ℕ → Bool
has_magic blocks k = u32_at blocks (128 * k) == 0x56424c4b

abbrev pub group : List ℕ → ℕ → ℕ
group blocks k = u32_at blocks (128 * k + 8)

abbrev pub part : List ℕ → ℕ → ℕ
part blocks k = u16_at blocks (128 * k + 12)

abbrev pub parts : List ℕ → ℕ → ℕ
parts blocks k = u16_at blocks (128 * k + 14)

abbrev pub payload : List ℕ → ℕ → List ℕ
payload blocks k = slice_range blocks (128 * k + 16) (128 * k + 128)

-- with parts 0 a block is unused, with 1 it is a whole record, and with more a fragment of its group
abbrev pub is_fragment : List ℕ → ℕ → Bool
is_fragment blocks k = nat_le 2 (parts blocks k)

-- block j is a fragment of the group g
abbrev pub is_of : List ℕ → ℕ → ℕ → Bool
is_of blocks g j = is_fragment blocks j && (group blocks j == g)

-- block j is this part of the group g
abbrev pub is_part : List ℕ → ℕ → ℕ → ℕ → Bool
is_part blocks g p j = is_of blocks g j && (part blocks j == p)

-- block j is a fragment of the group g whose number of parts isn't n
abbrev pub is_mixed : List ℕ → ℕ → ℕ → ℕ → Bool
is_mixed blocks g n j = is_of blocks g j && not (parts blocks j == n)

-- n numbers from this one on
abbrev pub numbers_from : ℕ → ℕ → List ℕ
numbers_from number zero = []
numbers_from number (suc n) = number ∷ numbers_from (number + 1) n

-- some number below n passes
abbrev pub some_below : ℕ → (ℕ → Bool) → Bool
some_below zero p = false
some_below (suc n) p = some_below n p || p n

-- every number below n passes
abbrev pub all_below : ℕ → (ℕ → Bool) → Bool
all_below zero p = true
all_below (suc n) p = all_below n p && p n

-- the least number below n that passes, or n where none does
abbrev pub least_below : ℕ → (ℕ → Bool) → ℕ
least_below zero p = zero
least_below (suc n) p = if some_below n p then least_below n p else if p n then n else suc n

-- some block is this part of the group g
abbrev pub is_there : List ℕ → ℕ → ℕ → Bool
is_there blocks g p = some_below (count blocks) (is_part blocks g p)

-- every part below n of the group g is there
unfoldable pub has_parts : List ℕ → ℕ → ℕ → Bool
has_parts blocks g n = all_below n (is_there blocks g)

-- the text `VBLK`, sequence, group, part and parts
abbrev pub head : ℕ → ℕ → ℕ → ℕ → List ℕ
head number group part parts =
    codes "VBLK" ++ big_bytes 4 number ++ big_bytes 4 group ++ big_bytes 2 part ++ big_bytes 2 parts

-- a head, and then 112 bytes
unfoldable pub written_block : ℕ → ℕ → ℕ → ℕ → List ℕ → List ℕ
written_block number group part parts bytes = head number group part parts ++ bytes

-- the block of that number, where number 4 is the first of the list
abbrev pub block_at : List ℕ → ℕ → List ℕ
block_at blocks number = take 128 (drop (128 * (number - 4)) blocks)
