use Rattle.std.proofs.Common.{◌≡◌, ◌-◌, take}
use Rattle.ledger.proofs.client.same_rows.Given as goal

abbrev pub invariant-loop-k : goal.invariant-loop-k
invariant-loop-k g l =
    g.L.Ledger.orderly l.a → g.M.Ledger.orderly l.b → take (l.k - 1) (g.L.Ledger.rows l.a) ≡ take (l.k - 1) (g.M.Ledger.rows l.b)
