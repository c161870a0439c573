-- The words of a new group.
use Rattle.std.specs.Prelude.{◌≢◌, ◌≤◌, ℕ, ◌==◌, ◌&&◌, not, nat_le, Bool, List, length, All, if◌then◌else◌, Option, Some, None}
use Rattle.std.specs.List.{list_all}

abbrev pub is_not_zero : ℕ → Bool
is_not_zero c = not (c == 0)

-- 1 to 30 bytes, none of them zero: a private header has room for 31 bytes, which end at the first zero
abbrev pub is_group_name : List ℕ → Bool
is_group_name name = (nat_le 1 (length name) && nat_le (length name) 30) && list_all is_not_zero name

abbrev pub new_group_name : Option (List ℕ) → Option (List ℕ)
new_group_name None = None
new_group_name (Some name) = if is_group_name name then Some name else None

-- what the grammar leaves of them
pub record AreInitWords (name disks : List ℕ) : Type 0 where
  pub named : 1 ≤ length name
  pub short : length name ≤ 30
  pub no_zero : All (λ c. c ≢ 0) name
  pub some : 2 ≤ length disks
  pub few : length disks ≤ 64
