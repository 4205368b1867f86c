-- A row's position in an ascending ledger, and what putting it there leaves. Only functions inside this crate cite this file.
--
--   row_at rows k             row k, counted from 0
--   Stands rows x k           exactly the first k rows come before x
--   Finds kind l x k          k is the position of x in the ledger l, where that is in order and ascending
--   InPosition kind l x l' r  the row is in its position; or there is no room for it, and the rows are as before
--   Puts kind l x l' r        what putting the new row x into the ledger l answers, and the ledger l' that it leaves
use Rattle.std.specs.Prelude.{◌≡◌, ℕ, ◌+◌, ◌<◌, ◌≤◌, List, [], length, Ok, Err, sum_by, Result, slice_index_or}
use Rattle.cycle_theory.specs.Nets.{Counts, Mem, Before, Ascending}
use Rattle.cycle_theory.specs.Method.{insert}
use Rattle.ledger.specs.declared.Ledger.{Ghosts as Kind}
use Rattle.ledger.specs.declared.fault.LedgerFault.{LedgerFault}
use Rattle.ledger.specs.declared.fault.LedgerFault.TheVariants.{Full}

abbrev pub row_at : List Counts → ℕ → Counts
row_at rows k = slice_index_or rows k []

pub record Stands (rows : List Counts) (x : Counts) (k : ℕ) : Type 0 where
  pub inside : k ≤ length rows
  pub before : (i : ℕ) → i < k → Before (row_at rows i) x
  pub after : (i : ℕ) → k ≤ i → i < length rows → Before (row_at rows i) x → ⊥

abbrev pub Finds : {L : Type 0} → Kind L → L → Counts → ℕ → Type 0
Finds kind l x k = kind.orderly l → Ascending (kind.rows l) → Stands (kind.rows l) x k

abbrev pub InPosition : {L : Type 0} → Kind L → L → Counts → L → Result (Unit {0}) LedgerFault → Type 0
InPosition kind l x l' (Ok _) = kind.rows l' ≡ insert x (kind.rows l)
InPosition kind l x l' (Err e) = (e ≡ Full) × (kind.TOTAL < sum_by kind.charge (kind.rows l) + kind.charge x) × (kind.rows l' ≡ kind.rows l)

pub record Puts {L : Type 0} (kind : Kind L) (l : L) (x : Counts) (l' : L) (r : Result (Unit {0}) LedgerFault) : Type 0 where
  pub order : kind.orderly l → kind.orderly l'
  pub put : kind.orderly l → Ascending (kind.rows l) → (Mem x (kind.rows l) → ⊥) → InPosition kind l x l' r
