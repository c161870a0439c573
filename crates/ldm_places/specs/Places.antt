-- Where a sector x of a striped volume lies: a column, and an offset in its partition. The volume has k columns in chunks of
-- u sectors, and m is the size of the least column.
use Rattle.std.specs.Prelude.{ℕ, ◌+◌, ◌-◌, ◌*◌, ◌/◌, ◌%◌}

-- ---- a stripe: its chunks go round the columns

abbrev pub stripe_capacity : ℕ → ℕ → ℕ → ℕ
stripe_capacity k u m = k * u * (m / u)

abbrev pub stripe_column : ℕ → ℕ → ℕ → ℕ
stripe_column k u x = x / u % k

abbrev pub stripe_offset : ℕ → ℕ → ℕ → ℕ
stripe_offset k u x = x / u / k * u + x % u

-- ---- RAID-5: each row has one chunk of parity

abbrev pub raid5_capacity : ℕ → ℕ → ℕ → ℕ
raid5_capacity k u m = (k - 1) * u * (m / u)

abbrev pub raid5_row : ℕ → ℕ → ℕ → ℕ
raid5_row k u x = x / u / (k - 1)

-- the column of the row's parity: from the last column down, row after row
abbrev pub parity_column : ℕ → ℕ → ℕ
parity_column k row = k - 1 - row % k

-- the data of a row begin at the column after its parity, and go round
abbrev pub raid5_column : ℕ → ℕ → ℕ → ℕ
raid5_column k u x = (parity_column k (raid5_row k u x) + 1 + x / u % (k - 1)) % k

-- of the sector, and of its parity
abbrev pub raid5_offset : ℕ → ℕ → ℕ → ℕ
raid5_offset k u x = raid5_row k u x * u + x % u
