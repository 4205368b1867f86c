use Rattle.std.proofs.Common.{◌≡◌, List, [], ℤ}
use Rattle.cycle_theory.specs.Flows.{Flow}
use Rattle.method.specs.Building.{Ready, Grown, Even}
use Rattle.method.proofs.build.add_balanced.Given as goal

abbrev pub invariant-loop-reading : goal.invariant-loop-reading
invariant-loop-reading g l =
    (p : List ℤ) (A : List Flow) → Ready g.L.Ledger p A l.current l.survey → g.L.Ledger.orderly l.initial.spare → g.L.Ledger.rows l.initial.spare ≡ [] →
    Grown g.L.Ledger (Even p (g.L.Ledger.rows l.current) l.reading-index) l.spare l.room
