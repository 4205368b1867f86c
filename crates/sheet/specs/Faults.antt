-- The refusals of a sheet by the numbers that people know them by, and the step that a refusal names.
--
--   number fault      the number of the refusal
--   bracket fault     the step that it names, from 1
--   from_place fault  what a sheet says where the place cannot be made
--   from_step fault   what a sheet says where the new rows cannot be made
use Rattle.std.specs.Prelude.{ℕ, Some, None, Option}
use Rattle.ledger.specs.declared.fault.LedgerFault.{LedgerFault}
use Rattle.ledger.specs.declared.fault.LedgerFault.TheVariants.{NoRow, NoPosition, CountTooLarge, Full}
use Rattle.ledger.specs.Faults as ledger
use Rattle.method.specs.declared.fault.PlaceFault.{PlaceFault}
use Rattle.method.specs.declared.fault.PlaceFault.TheVariants as place
use Rattle.method.specs.declared.fault.StepFault.{StepFault}
use Rattle.method.specs.declared.fault.StepFault.TheVariants as new
use Rattle.sheet.specs.declared.fault.SheetFault.{SheetFault}
use Rattle.sheet.specs.declared.fault.SheetFault.TheVariants.{StepCount, Length, Effect, PlacesFull, RowTooLarge, Count, ListTooShort, Ledger}

abbrev pub number : SheetFault → ℕ
number StepCount = 1
number Length = 2
number (Effect step) = 3
number PlacesFull = 4
number RowTooLarge = 5
number (Count step) = 7
number ListTooShort = 11
number (Ledger fault) = ledger.number fault

-- the step that a ledger's refusal names
abbrev pub ledger_bracket : LedgerFault → Option ℕ
ledger_bracket NoRow = None
ledger_bracket NoPosition = None
ledger_bracket (CountTooLarge step) = Some step
ledger_bracket Full = None

abbrev pub bracket : SheetFault → Option ℕ
bracket StepCount = None
bracket Length = None
bracket (Effect step) = Some step
bracket PlacesFull = None
bracket RowTooLarge = None
bracket (Count step) = Some step
bracket ListTooShort = None
bracket (Ledger fault) = ledger_bracket fault

abbrev pub from_place : PlaceFault → SheetFault
from_place place.TooLong = Length
from_place (place.Effect step) = Effect step

abbrev pub from_step : StepFault → SheetFault
from_step new.RowTooLarge = RowTooLarge
from_step (new.Ledger fault) = Ledger fault
