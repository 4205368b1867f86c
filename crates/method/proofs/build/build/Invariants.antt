use Rattle.std.proofs.Common.{List}
use Rattle.cycle_theory.specs.Flows.{Flow}
use Rattle.method.specs.Places.{effects_of}
use Rattle.method.specs.Building.{Ready, Grown, SoFar}
use Rattle.method.proofs.build.build.Given as goal

abbrev pub invariant-loop-a : goal.invariant-loop-a
invariant-loop-a g l =
    (A : List Flow) → Ready g.L.Ledger (effects_of l.place) A l.current l.readings →
    Grown g.L.Ledger (SoFar (effects_of l.place) (g.L.Ledger.rows l.current) 0 0) l.initial.spare l.initial.room →
    Grown g.L.Ledger (SoFar (effects_of l.place) (g.L.Ledger.rows l.current) l.a-index 0) l.spare l.room
