-- Rows of 24 counts, and lists of them that a ledger may hold.
--
--   unit j            the row that counts step j + 1 once, and no other step
--   units n           the first n of these
--   Small row         no count is above 1,048,575
--   FirstLarge row j  step j (from 1) is the first whose count is above that
--   WellKept ..       rows of 24 counts, small, whose charges come to at most the total
--   Mask row m        the steps in use of the row, as a number of 24 bits
--   nonzeros row      how many steps are in use
--   entry_charge row  what the entry ledger charges a row: 1, and 1 for each step in use
use Rattle.std.specs.Prelude.{◌≡◌, ℕ, ◌+◌, ◌-◌, ◌/◌, ◌%◌, ◌^◌, ◌<◌, ◌≤◌, cond, not, List, map, length, replicate, sum_by, count_by, ◌==◌, slice_index, slice_set}
use Rattle.std.specs.List.{range_with_len, AllByRecursion}

abbrev pub unit : ℕ → List ℕ
unit j = slice_set (replicate 24 0) j 1

abbrev pub units : ℕ → List (List ℕ)
units n = map unit (range_with_len 0 n)

abbrev pub Small : List ℕ → Type 0
Small row = (j : ℕ) → j < 24 → slice_index row j ≤ 1048575

abbrev pub FirstLarge : List ℕ → ℕ → Type 0
FirstLarge row j = (1 ≤ j) × (j ≤ 24) × (1048575 < slice_index row (j - 1)) × ((i : ℕ) → i < j - 1 → slice_index row i ≤ 1048575)

pub record WellKept (charge : List ℕ → ℕ) (total : ℕ) (rows : List (List ℕ)) : Type 0 where
  pub wide : AllByRecursion (λ row. length row ≡ 24) rows
  pub small : AllByRecursion Small rows
  pub fits : sum_by charge rows ≤ total

-- bit j - 1 is 1 exactly when step j has a count other than 0
pub record Mask (row : List ℕ) (m : ℕ) : Type 0 where
  pub below : m < 2 ^ 24
  pub bits : (j : ℕ) → j < 24 → m / 2 ^ j % 2 ≡ cond (slice_index row j == 0) 0 1

abbrev pub nonzeros : List ℕ → ℕ
nonzeros row = count_by (λ n. not (n == 0)) row

abbrev pub entry_charge : List ℕ → ℕ
entry_charge row = 1 + nonzeros row
