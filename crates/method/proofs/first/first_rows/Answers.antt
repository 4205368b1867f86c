use Rattle.std.proofs.Common.{ℕ, min, List, subst, arith}
use Rattle.ledger.specs.Calls.{Inserts}
use Rattle.method.proofs.Opening.{unit_more}
use Rattle.method.proofs.first.first_rows.Goals as goal

pub loop-step-preserved : goal.loop-step-preserved
loop-step-preserved g c =
    let n = min c.args.n 24 in
    let is = c.min-step-end.ensures in
    let lt = c.loop-step-test.true in
    let order = c.loop-step.invariant.0 in (
      c.insert.ensures.order order,
      unit_more g.L.Ledger.charge g.L.Ledger.TOTAL n c.loop-step.step (omega arith) (omega (arith, is, lt)) g.met.L.Ledger.first _ _ c.loop-step.invariant.1 _
          (subst (λ (row : List ℕ). Inserts g.L.Ledger.charge g.L.Ledger.TOTAL (g.L.Ledger.rows c.loop-step.rows) 1 row (g.L.Ledger.rows c.insert.new.self) c.insert.result) c.unit.ensures (c.insert.ensures.answer order)),
    )
