-- The numbers by which people know a ledger's refusals.
--
--   number fault   the number of this refusal
use Rattle.std.specs.Prelude.{ℕ}
use Rattle.ledger.specs.declared.fault.LedgerFault.{LedgerFault}
use Rattle.ledger.specs.declared.fault.LedgerFault.TheVariants.{NoRow, NoPosition, CountTooLarge, Full}

abbrev pub number : LedgerFault → ℕ
number Full = 6
number (CountTooLarge step) = 7
number NoRow = 8
number NoPosition = 15
