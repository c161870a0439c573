-- The first fault of a list of blocks: block by block in rising number, within a block in the order of
-- the tests below, and a lacking part only after all blocks.
use Rattle.std.specs.Prelude.{ℕ, zero, suc, ◌+◌, Bool, not, ◌&&◌, List, Option, Some, None, nat_lt, nat_le, if◌then◌else◌}
use Rattle.ldm_frags.specs.declared.faults.FragFault.{FragFault}
use Rattle.ldm_frags.specs.declared.faults.FragFault.TheVariants.{NoMagic, Parts, Part, Mixed, Repeated, Missing}
use Rattle.ldm_frags.specs.Blocks.{count, has_magic, group, part, parts, is_fragment, is_part, is_mixed, some_below, has_parts}

-- the fault of the block of a number, by its head, and by whether some fragment of its group before it has
-- another number of parts, or is the same part
abbrev pub fault_by : ℕ → Bool → ℕ → ℕ → Bool → Bool → Option FragFault
fault_by number magic part parts mixed repeated =
    if not magic then Some (NoMagic number)
    else if nat_lt 4 parts then Some (Parts number)
    else if not (nat_le 2 parts) then None
    else if nat_le parts part then Some (Part number)
    else if mixed then Some (Mixed number)
    else if repeated then Some (Repeated number)
    else None

-- the fault of block k, by what stands before it
unfoldable pub block_fault : List ℕ → ℕ → Option FragFault
block_fault blocks k =
    fault_by (k + 4) (has_magic blocks k) (part blocks k) (parts blocks k)
    (some_below k (is_mixed blocks (group blocks k) (parts blocks k)))
    (some_below k (is_part blocks (group blocks k) (part blocks k)))

-- every part of the group of block k is there, where it is a fragment
abbrev pub has_all : List ℕ → ℕ → Bool
has_all blocks k = has_parts blocks (group blocks k) (parts blocks k)

-- block k is of a group that lacks a part
unfoldable pub missing_fault : List ℕ → ℕ → Option FragFault
missing_fault blocks k =
    if is_fragment blocks k && not (has_all blocks k) then Some (Missing (k + 4)) else None

abbrev pub or_else : Option FragFault → Option FragFault → Option FragFault
or_else (Some fault) other = Some fault
or_else None other = other

-- the fault of the least number below n that has one
abbrev pub first_below : ℕ → (ℕ → Option FragFault) → Option FragFault
first_below zero fault = None
first_below (suc n) fault = or_else (first_below n fault) (fault n)

-- the first fault of a block, or after all blocks that of the first block whose group lacks a part
unfoldable pub first_block_fault : List ℕ → Option FragFault
first_block_fault blocks =
    or_else (first_below (count blocks) (block_fault blocks)) (first_below (count blocks) (missing_fault blocks))
