-- What the inner functions of certifying answer; only their contracts cite this file.
--
--   Asked n rows x entries r    what asking the question x answers: its counts as a row, or the first cause that holds
--   Breaks A x r                what looking for the first broken place answers
use Rattle.std.specs.Prelude.{◌≡◌, ℕ, ◌+◌, ◌<◌, ◌≤◌, List, length, ℤ, Some, None, Ok, Err, Option, Result}
use Rattle.ledger.specs.declared.row.Row.{Row}
use Rattle.cycle_theory.specs.Walk.{unbroken}
use Rattle.method.specs.Stepping.{wide}
use Rattle.sheet.specs.declared.fault.SheetFault.{SheetFault}
use Rattle.sheet.specs.Certifying.{asking}

abbrev pub Asked : ℕ → ℕ → List ℕ → ℕ → Result Row SheetFault → Type 0
Asked n rows x entries (Ok row) = (asking n rows x entries ≡ Ok tt) × (row.counts ≡ wide x)
Asked n rows x entries (Err fault) = asking n rows x entries ≡ Err fault

abbrev pub Breaks : List (List ℤ) → List ℕ → Option ℕ → Type 0
Breaks places x None = length places ≤ unbroken places x
Breaks places x (Some place) = (unbroken places x < length places) × (place ≡ unbroken places x + 1)
