-- Whether a row can be held. Only functions inside this crate cite this file.
--
--   Fitted x r    r is the row with the counts x, or none where one of them is above 1,048,575
use Rattle.std.specs.Prelude.{◌≡◌, Some, None, Option}
use Rattle.cycle_theory.specs.Nets.{Counts}
use Rattle.ledger.specs.Rows.{Small}
use Rattle.method.specs.declared.held.Held.{Held}

abbrev pub Fitted : Counts → Option Held → Type 0
Fitted x (Some held) = held.row.counts ≡ x
Fitted x None = Small x → ⊥
