use Rattle.std.proofs.Common.{◌≡◌, ◌+◌, ◌-◌, take, sum_by}
use Rattle.ledger.proofs.client.fits.Given as goal

abbrev pub invariant-loop-k : goal.invariant-loop-k
invariant-loop-k g l = g.L.Ledger.orderly l.from → l.left + sum_by g.M.Ledger.charge (take (l.k - 1) (g.L.Ledger.rows l.from)) ≡ g.M.Ledger.TOTAL
