-- What can be done with ledgers of any two kinds.
--
--   Copied from-kind to-kind from before after answer   what copying the rows of one ledger into another answers, and how the other ends
use Rattle.std.specs.Prelude.{◌≡◌, ◌<◌, ◌≤◌, Ok, Err, sum_by, Result}
use Rattle.ledger.specs.declared.fault.LedgerFault.{LedgerFault}
use Rattle.ledger.specs.declared.fault.LedgerFault.TheVariants.{Full}
use Rattle.ledger.specs.declared.Ledger.{Ghosts as Kind}

abbrev pub Copied : {L M : Type 0} → Kind L → Kind M → L → M → M → Result (Unit {0}) LedgerFault → Type 0
Copied k m from before after (Ok _) = (sum_by m.charge (k.rows from) ≤ m.TOTAL) × m.orderly after × (m.rows after ≡ k.rows from)
Copied k m from before after (Err e) = (m.TOTAL < sum_by m.charge (k.rows from)) × (e ≡ Full) × (after ≡ before)
