-- Nets handed to a sheet whole, their places in a list.
--
--   Accepts k n places             a sheet of n steps on a ledger of kind k accepts each place after those before it
--   Stops k n places fault         it accepts the places up to one, and refuses that with this fault
--   Filled n places s              a sheet accepts them all, and s is the open sheet after them
--   SheetOf n places c             a sheet accepts them all, and c is the closed sheet
--   FilledInOrder n places s       Filled, by calls that kept the ledgers in order
--   SheetInOrder n places c        SheetOf, by such calls, so that the ledger of c is in order
--   Refused j m A k n B fault      the first of two nets is stopped by this fault, or else the second
--   Tells m A n B answer           Same, exactly when the two nets have equally many steps and the same cycles
use Rattle.std.specs.Prelude.{◌≡◌, ℕ, ◌<◌, ◌⊎◌, ◌↔◌, List, [], length, take, Ok, Err, slice_index_or}
use Rattle.ledger.specs.declared.Ledger.{Ghosts as Kind}
use Rattle.cycle_theory.specs.Nets.{Counts, Place, Cycle}
use Rattle.sheet.specs.declared.comparing.Comparison.{Comparison}
use Rattle.sheet.specs.declared.comparing.Comparison.TheVariants.{Same}
use Rattle.sheet.specs.declared.fault.SheetFault.{SheetFault}
use Rattle.sheet.specs.declared.sheets.ClosedSheet.{ClosedSheet}
use Rattle.sheet.specs.declared.sheets.OpenSheet.{OpenSheet}
use Rattle.sheet.specs.Verdict.{Outcome, verdict}
use Rattle.sheet.specs.Runs.{History, accepted, CameBy, ClosedBy}
use Rattle.sheet.specs.Order.{OrderKept, RowsOrdered}

-- what the place at i is answered after those before it
abbrev pub answer_at : {L : Type 0} → Kind L → ℕ → List Place → ℕ → Outcome
answer_at k n places i = verdict k n (take i places) (slice_index_or places i [])

abbrev pub Accepts : {L : Type 0} → Kind L → ℕ → List Place → Type 0
Accepts k n places = (i : ℕ) → i < length places → answer_at k n places i ≡ Ok tt

pub record Stops {L : Type 0} (k : Kind L) (n : ℕ) (places : List Place) (fault : SheetFault) : Type 0 where
  pub at : ℕ
  pub within : at < length places
  pub before : (i : ℕ) → i < at → answer_at k n places i ≡ Ok tt
  pub here : answer_at k n places at ≡ Err fault

pub record Filled {L : Type 0} {k : Kind L} (n : ℕ) (places : List Place) (s : OpenSheet L k) : Type 0 where
  pub accepts : Accepts k n places
  pub history : History
  pub came : CameBy n history s
  pub places_are : accepted history ≡ places

pub record SheetOf {L : Type 0} {k : Kind L} (n : ℕ) (places : List Place) (c : ClosedSheet L k) : Type 0 where
  pub accepts : Accepts k n places
  pub history : History
  pub closed : ClosedBy n history c
  pub places_are : accepted history ≡ places

pub record FilledInOrder {L : Type 0} {k : Kind L} (n : ℕ) (places : List Place) (s : OpenSheet L k) : Type 0 where
  pub filled : Filled n places s
  pub kept : OrderKept n filled.history s filled.came

pub record SheetInOrder {L : Type 0} {k : Kind L} (n : ℕ) (places : List Place) (c : ClosedSheet L k) : Type 0 where
  pub sheet : SheetOf n places c
  pub kept : OrderKept n sheet.history sheet.closed.0 sheet.closed.1
  pub rows : RowsOrdered c

abbrev pub Refused : {L M : Type 0} → Kind L → ℕ → List Place → Kind M → ℕ → List Place → SheetFault → Type 0
Refused j m A k n B fault = Stops j m A fault ⊎ (Accepts j m A × Stops k n B fault)

abbrev pub Tells : ℕ → List Place → ℕ → List Place → Comparison → Type 0
Tells m A n B answer = (answer ≡ Same) ↔ ((m ≡ n) × ((x : Counts) → Cycle m A x ↔ Cycle n B x))
