-- How the rows after one place more come to stand in the spare ledger. Only functions inside this crate cite this file.
--
-- p is the new place, `rows` are the rows of the current ledger, and rows go by their index from 0.
--
--   Room                        what the spare ledger answered: the rows made so far fit, or its refusal
--   Ready kind p A current s    the current ledger holds the rows of places with the flows A, ascending, and s is their survey on p
--   Adjacent p rows a b         p gains by row a and loses by row b, and no third row uses only steps of the two
--   PairMade kind c a b r       r is the row of the adjacent rows that a and b read of the current ledger c, or none where it is too large
--   Even p rows k z             z is one of the first k rows, and has the sum 0
--   Pair p rows a b z           z is the row of the adjacent rows a and b
--   SoFar p rows a b z          z is a row with the sum 0, or the row of a pair that comes before (a, b)
--   Filled kind made spare r    the spare ledger holds the rows made, or they have no room
--   RowAdded kind s x r s' r'   what adding the new row x to those made makes of the spare ledger s and of its answer so far
--   Grown kind P spare r        exactly the rows z with P z are made, ascending and small
--   Large rows                  one of the rows is too large for a ledger
--   Added kind new P spare r    exactly the rows z with P z are made; or it is told that one of the new rows is too large
--   EvenAdded, PairsAdded       what adding the rows with the sum 0, and those of the pairs of row a, leaves
--   Ended kind new spare r      what is answered in the end, where `new` are the rows after the place
--   Built kind p c s s' r       what building all of them from the current ledger c answers, and makes of the empty spare ledger s
use Rattle.std.specs.Prelude.{◌≡◌, ℕ, ◌+◌, ◌<◌, ◌⊎◌, ◌↔◌, List, [], length, ℤ, pos, ◌<ℤ◌, Ok, Err, sum_by, Option, Result}
use Rattle.cycle_theory.specs.Nets.{Counts, Mem, sum, Ascending}
use Rattle.cycle_theory.specs.Method.{combined, divided, insert, step}
use Rattle.cycle_theory.specs.Flows.{Flow, Cover}
use Rattle.ledger.specs.declared.Ledger.{Ghosts as Kind}
use Rattle.ledger.specs.declared.fault.LedgerFault.{LedgerFault}
use Rattle.ledger.specs.declared.fault.LedgerFault.TheVariants.{Full}
use Rattle.ledger.specs.Rows.{Small}
use Rattle.method.specs.declared.held.Held.{Held}
use Rattle.method.specs.declared.reading.Reading.{Reading}
use Rattle.method.specs.declared.fault.StepFault.{StepFault}
use Rattle.method.specs.declared.fault.StepFault.TheVariants.{RowTooLarge, Ledger}
use Rattle.method.specs.Fitting.{Fitted}
use Rattle.method.specs.Ascents.{row_at}
use Rattle.method.specs.Surveys.{Told, Surveyed, Third}

abbrev pub Room : Type 0
Room = Result (Unit {0}) LedgerFault

pub record Ready {L : Type 0} (kind : Kind L) (p : List ℤ) (A : List Flow) (current : L) (s : List Reading) : Type 0 where
  pub order : kind.orderly current
  pub cover : Cover 24 A (kind.rows current)
  pub ascending : Ascending (kind.rows current)
  pub surveyed : Surveyed p (kind.rows current) s

pub record Adjacent (p : List ℤ) (rows : List Counts) (a b : ℕ) : Type 0 where
  pub gains : pos 0 <ℤ sum p (row_at rows a)
  pub loses : sum p (row_at rows b) <ℤ pos 0
  pub alone : Third rows a b → ⊥

abbrev pub PairMade : {L : Type 0} → Kind L → L → Reading → Reading → Option Held → Type 0
PairMade kind current a b r =
    (p : List ℤ) → kind.orderly current → Told p (kind.rows current) a → Told p (kind.rows current) b → Adjacent p (kind.rows current) a.row b.row →
    Fitted (divided (combined p (row_at (kind.rows current) a.row) (row_at (kind.rows current) b.row))) r

abbrev pub Even : List ℤ → List Counts → ℕ → Counts → Type 0
Even p rows k z = (i : ℕ) × (i < k) × (i < length rows) × (sum p (row_at rows i) ≡ pos 0) × (z ≡ row_at rows i)

pub record Pair (p : List ℤ) (rows : List Counts) (a b : ℕ) (z : Counts) : Type 0 where
  pub first : a < length rows
  pub second : b < length rows
  pub adjacent : Adjacent p rows a b
  pub is : z ≡ divided (combined p (row_at rows a) (row_at rows b))

-- pair (i, j) comes before pair (a, b)
abbrev pub Earlier : ℕ → ℕ → ℕ → ℕ → Type 0
Earlier i j a b = (i < a) ⊎ ((i ≡ a) × (j < b))

abbrev pub SoFar : List ℤ → List Counts → ℕ → ℕ → Counts → Type 0
SoFar p rows a b z = Even p rows (length rows) z ⊎ ((i : ℕ) × (j : ℕ) × (Earlier i j a b) × Pair p rows i j z)

abbrev pub Filled : {L : Type 0} → Kind L → List Counts → L → Room → Type 0
Filled kind made spare (Ok _) = kind.rows spare ≡ made
Filled kind made spare (Err e) = (e ≡ Full) × (kind.TOTAL < sum_by kind.charge made)

pub record RowAdded {L : Type 0} (kind : Kind L) (spare : L) (x : Counts) (room : Room) (spare' : L) (room' : Room) : Type 0 where
  pub order : kind.orderly spare → kind.orderly spare'
  pub filled : (made : List Counts) → kind.orderly spare → Ascending made → (Mem x made → ⊥) → Filled kind made spare room → Filled kind (insert x made) spare' room'

-- `made` goes on growing where the ledger has no room any more
pub record Grown {L : Type 0} (kind : Kind L) (P : Counts → Type 0) (spare : L) (room : Room) : Type 0 where
  pub order : kind.orderly spare
  pub made : List Counts
  pub ascending : Ascending made
  pub exactly : (z : Counts) → Mem z made ↔ P z
  pub small : (z : Counts) → Mem z made → Small z
  pub filled : Filled kind made spare room

abbrev pub Large : List Counts → Type 0
Large rows = (w : Counts) × (Mem w rows) × (Small w → ⊥)

abbrev pub Added : {L : Type 0} → Kind L → List Counts → (Counts → Type 0) → L → Result Room StepFault → Type 0
Added kind new P spare (Ok room) = Grown kind P spare room
Added kind new P spare (Err RowTooLarge) = Large new
Added kind new P spare (Err (Ledger e)) = ⊥

abbrev pub EvenAdded : {L : Type 0} → Kind L → L → List Reading → L → L → Room → Type 0
EvenAdded kind current s spare spare' room =
    (p : List ℤ) (A : List Flow) → Ready kind p A current s → kind.orderly spare → kind.rows spare ≡ [] → Grown kind (SoFar p (kind.rows current) 0 0) spare' room

abbrev pub PairsAdded : {L : Type 0} → Kind L → L → List Reading → Reading → L → Room → L → Result Room StepFault → Type 0
PairsAdded kind current s a spare room spare' r =
    (p : List ℤ) (A : List Flow) → Ready kind p A current s → Told p (kind.rows current) a → Grown kind (SoFar p (kind.rows current) a.row 0) spare room →
    Added kind (step p (kind.rows current)) (SoFar p (kind.rows current) (a.row + 1) 0) spare' r

abbrev pub Ended : {L : Type 0} → Kind L → List Counts → L → Result (Unit {0}) StepFault → Type 0
Ended kind new spare (Ok _) = (kind.orderly spare) × ((w : Counts) → Mem w new → Small w) × (kind.rows spare ≡ new)
Ended kind new spare (Err RowTooLarge) = Large new
Ended kind new spare (Err (Ledger e)) = (e ≡ Full) × ((w : Counts) → Mem w new → Small w) × (kind.TOTAL < sum_by kind.charge new)

abbrev pub Built : {L : Type 0} → Kind L → List ℤ → L → L → L → Result (Unit {0}) StepFault → Type 0
Built kind p current spare spare' r =
    (A : List Flow) → kind.orderly current → Cover 24 A (kind.rows current) → Ascending (kind.rows current) → kind.orderly spare → kind.rows spare ≡ [] →
    Ended kind (step p (kind.rows current)) spare' r
