use Rattle.std.proofs.Common.{◌≡◌, ◌-◌, take}
use Rattle.ledger.proofs.client.copy_rows.Given as goal

abbrev pub invariant-loop-k : goal.invariant-loop-k
invariant-loop-k g l = g.M.Ledger.orderly l.to × (g.L.Ledger.orderly l.from → g.M.Ledger.rows l.to ≡ take (l.k - 1) (g.L.Ledger.rows l.from))
