use Rattle.std.proofs.Common.{◌≡◌, min}
use Rattle.cycle_theory.specs.Method.{units_to}
use Rattle.method.specs.Stepping.{written}
use Rattle.method.proofs.first.first_rows.Given as goal

abbrev pub invariant-loop-step : goal.invariant-loop-step
invariant-loop-step g l = g.L.Ledger.orderly l.rows × (g.L.Ledger.rows l.rows ≡ written (units_to (min l.n 24) l.step))
