-- What the walk over the rows of a ledger answers.
--
--   Tells rows x r        over these rows the walk on the question x certifies exactly what the certificate says; none: it is too large or stuck
--   Walked k ledger x r   the same, of the rows of a ledger in order
use Rattle.std.specs.Prelude.{◌≡◌, ◌⊎◌, List, length, Some, None, Option}
use Rattle.ledger.specs.declared.Ledger.{Ghosts as Kind}
use Rattle.cycle_theory.specs.Nets.{Counts}
use Rattle.cycle_theory.specs.Walk.{certified, too_large, stuck, walk}
use Rattle.certificate.specs.declared.certificate.Certificate.{Certificate}
use Rattle.certificate.specs.Shares.{coefficients_of}

abbrev pub Tells : List Counts → Counts → Option Certificate → Type 0
Tells rows x (Some c) = walk rows x ≡ certified c.multiplier (coefficients_of (length rows) c)
Tells rows x None = (walk rows x ≡ too_large) ⊎ (walk rows x ≡ stuck)

abbrev pub Walked : {L : Type 0} → Kind L → L → Counts → Option Certificate → Type 0
Walked k ledger x r = k.orderly ledger → Tells (k.rows ledger) x r
