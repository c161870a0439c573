-- The sample script: 200 lines that are drawn from a seed.
use Rattle.std.specs.Prelude.{ℕ, zero, suc, ◌+◌, ◌*◌, ◌/◌, ◌%◌, ◌^◌, ◌==◌, List, [], ◌++◌, codes, decimal, if◌then◌else◌}

-- A linear congruential generator of 64 bits. The state begins as the seed; a draw takes the next state, of which it is the
-- upper 31 bits.
abbrev pub advanced : ℕ → ℕ
advanced state = (state * 6364136223846793005 + 1442695040888963407) % 2 ^ 64

abbrev pub state_after : ℕ → ℕ → ℕ
state_after seed zero = seed
state_after seed (suc draws) = advanced (state_after seed draws)

-- the draw of this number, from 1 on
abbrev pub draw : ℕ → ℕ → ℕ
draw seed number = state_after seed number / 2 ^ 33

-- ---- the lines, each of a number and a drawn value

abbrev pub span_line : ℕ → ℕ → List ℕ
span_line line value =
    codes "create V" ++ decimal line ++ codes " eeeeeeee-eeee-eeee-eeee-eeeeeeeeeeee span Disk" ++ decimal (1 + value % 3) ++ codes "=" ++ decimal (1 + value / 3 % 64) ++ codes "\n"

abbrev pub mirror_line : ℕ → ℕ → List ℕ
mirror_line line value = codes "create V" ++ decimal line ++ codes " eeeeeeee-eeee-eeee-eeee-eeeeeeeeeeee mirror " ++ decimal (1 + value % 64) ++ codes " Disk1 Disk2\n"

-- of one of the volumes that the lines up to this one name
abbrev pub extend_line : ℕ → ℕ → List ℕ
extend_line line value = codes "extend V" ++ decimal (1 + value % line) ++ codes " Disk" ++ decimal (1 + value / 512 % 3) ++ codes "=" ++ decimal (1 + value % 64) ++ codes "\n"

abbrev pub delete_line : ℕ → ℕ → List ℕ
delete_line line value = codes "delete V" ++ decimal (1 + value % line) ++ codes "\n"

-- the line of this number, by two draws: one chooses the command, the other its numbers
abbrev pub sample_line : ℕ → ℕ → ℕ → List ℕ
sample_line line kind value =
    if kind % 4 == 0 then span_line line value
    else if kind % 4 == 1 then mirror_line line value
    else if kind % 4 == 2 then extend_line line value
    else delete_line line value

-- the first lines of the script
unfoldable pub lines_of_seed : ℕ → ℕ → List ℕ
lines_of_seed seed zero = []
lines_of_seed seed (suc lines) = lines_of_seed seed lines ++ sample_line (lines + 1) (draw seed (2 * lines + 1)) (draw seed (2 * lines + 2))

-- all of it
abbrev pub script_of : ℕ → List ℕ
script_of seed = lines_of_seed seed 200
