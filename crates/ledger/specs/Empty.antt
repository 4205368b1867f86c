-- What a new ledger is.
--
--   Empty kind ledger   the ledger is in order and holds no row
use Rattle.std.specs.Prelude.{◌≡◌, []}
use Rattle.ledger.specs.declared.Ledger.{Ghosts as Kind}

pub record Empty {L : Type 0} (kind : Kind L) (ledger : L) : Type 0 where
  pub order : kind.orderly ledger
  pub rows : kind.rows ledger ≡ []
