use Rattle.std.proofs.Common.{List, ℤ}
use Rattle.cycle_theory.specs.Flows.{Flow}
use Rattle.method.specs.Surveys.{Told}
use Rattle.method.specs.Building.{Ready, Grown, SoFar}
use Rattle.method.proofs.build.add_pairs.Given as goal

abbrev pub invariant-loop-b : goal.invariant-loop-b
invariant-loop-b g l =
    (p : List ℤ) (A : List Flow) → Ready g.L.Ledger p A l.current l.survey → Told p (g.L.Ledger.rows l.current) l.a →
    Grown g.L.Ledger (SoFar p (g.L.Ledger.rows l.current) l.a.row 0) l.initial.spare l.initial.room →
    Grown g.L.Ledger (SoFar p (g.L.Ledger.rows l.current) l.a.row l.b-index) l.spare l.room
