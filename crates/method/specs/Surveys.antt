-- What is known of the current rows before any new row is made. Only functions inside this crate cite this file.
--
--   Told p rows r       the reading r tells the sum on the place p, and the steps in use, of its row, which has 24 counts
--   Surveyed p rows s   s are the readings of all rows, in their order
--   Third rows a b      a third row uses only steps which the rows a and b use between them
use Rattle.std.specs.Prelude.{◌≡◌, ℕ, ◌<◌, List, length, ℤ, ◌≢◌, slice_index_or}
use Rattle.std.specs.List.{All}
use Rattle.cycle_theory.specs.Nets.{Counts, sum}
use Rattle.cycle_theory.specs.Theorems.{WithinPair}
use Rattle.ledger.specs.Rows.{Mask}
use Rattle.method.specs.declared.reading.Reading.{Reading}
use Rattle.method.specs.Ascents.{row_at}

pub record Told (p : List ℤ) (rows : List Counts) (r : Reading) : Type 0 where
  pub inside : r.row < length rows
  pub wide : length (row_at rows r.row) ≡ 24
  pub sum_is : r.sum ≡ sum p (row_at rows r.row)
  pub mask_is : Mask (row_at rows r.row) r.mask

pub record Surveyed (p : List ℤ) (rows : List Counts) (s : List Reading) : Type 0 where
  pub many : length s ≡ length rows
  pub in_turn : (k : ℕ) (d : Reading) → k < length s → (slice_index_or s k d).row ≡ k
  pub told : All (Told p rows) s

abbrev pub Third : List Counts → ℕ → ℕ → Type 0
Third rows a b = (k : ℕ) × (k < length rows) × (k ≢ a) × (k ≢ b) × WithinPair (row_at rows k) (row_at rows a) (row_at rows b)
