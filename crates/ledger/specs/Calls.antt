-- What the calls of a ledger answer, and what they leave.
--
--   Held k rows       row k, counted from 1, is held
--   Reads rows k r    what reading row k answers
--   Uses rows k r     what asking for the steps in use of row k answers
--   Position k rows   a row can be inserted at k
--   Unplaced k n row fault   why the row cannot be inserted at k, where n rows are held: not there, or not this row
--   Cause .. fault    why an insertion is refused: each cause says that none before it holds
--   Inserts .. r      what an insertion answers, and which rows it leaves
use Rattle.std.specs.Prelude.{◌≡◌, ℕ, ◌+◌, ◌-◌, ◌<◌, ◌≤◌, List, [], length, Ok, Err, sum_by, Result, slice_index_or}
use Rattle.std.specs.List.{insert}
use Rattle.ledger.specs.declared.fault.LedgerFault.{LedgerFault}
use Rattle.ledger.specs.declared.fault.LedgerFault.TheVariants.{NoRow, NoPosition, CountTooLarge, Full}
use Rattle.ledger.specs.declared.row.Row.{Row}
use Rattle.ledger.specs.Rows.{Small, FirstLarge, Mask}

abbrev pub Held : ℕ → List (List ℕ) → Type 0
Held k rows = (1 ≤ k) × (k ≤ length rows)

abbrev pub Reads : List (List ℕ) → ℕ → Result Row LedgerFault → Type 0
Reads rows k (Ok row) = Held k rows × (row.counts ≡ slice_index_or rows (k - 1) [])
Reads rows k (Err e) = (e ≡ NoRow) × (Held k rows → ⊥)

abbrev pub Uses : List (List ℕ) → ℕ → Result ℕ LedgerFault → Type 0
Uses rows k (Ok m) = Held k rows × Mask (slice_index_or rows (k - 1) []) m
Uses rows k (Err e) = (e ≡ NoRow) × (Held k rows → ⊥)

abbrev pub Position : ℕ → List (List ℕ) → Type 0
Position k rows = (1 ≤ k) × (k ≤ length rows + 1)

abbrev pub Unplaced : ℕ → ℕ → List ℕ → LedgerFault → Type 0
Unplaced k n row NoPosition = (1 ≤ k) × (k ≤ n + 1) → ⊥
Unplaced k n row (CountTooLarge step) = (1 ≤ k) × (k ≤ n + 1) × FirstLarge row step
Unplaced k n row Full = ⊥
Unplaced k n row NoRow = ⊥

abbrev pub Cause : (List ℕ → ℕ) → ℕ → List (List ℕ) → ℕ → List ℕ → LedgerFault → Type 0
Cause charge total rows k row NoPosition = Position k rows → ⊥
Cause charge total rows k row (CountTooLarge step) = Position k rows × FirstLarge row step
Cause charge total rows k row Full = Position k rows × Small row × (total < sum_by charge rows + charge row)
Cause charge total rows k row NoRow = ⊥

abbrev pub Inserts : (List ℕ → ℕ) → ℕ → List (List ℕ) → ℕ → List ℕ → List (List ℕ) → Result (Unit {0}) LedgerFault → Type 0
Inserts charge total rows k row rows' (Ok _) =
    Position k rows × Small row × (sum_by charge rows + charge row ≤ total) × (rows' ≡ insert rows (k - 1) row)
Inserts charge total rows k row rows' (Err e) = Cause charge total rows k row e × (rows' ≡ rows)
