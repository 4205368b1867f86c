use Rattle.std.proofs.Common.{◌+◌, ◌-◌, ◌/◌, ◌<◌, length, sym, arith}
use Rattle.method.proofs.Placing.{turn_right, turn_left}
use Rattle.method.proofs.order.position.Goals as goal

pub loop-low-preserved-then-comes_before : goal.loop-low-preserved-then-comes_before
loop-low-preserved-then-comes_before g c =
    let low = c.loop-low.low in
    let high = c.loop-low.high in
    let mid = low + (high - low) / 2 in
    let rows = g.L.Ledger.rows c.args.rows.now in
    let lt = c.loop-low-test.true in (
      omega (arith, lt),
      c.loop-low.invariant.1,
      λ o asc.
          let i = c.loop-low.invariant.2 o asc in
          let h = i.0 in
          let inside : mid < length rows = omega (arith, lt, h) in
          (i.0, turn_right rows c.args.row.now.counts _ mid asc inside (c.row_at.ensures o inside) (sym c.if-comes_before.ensures), i.2),
    )

pub loop-low-preserved : goal.loop-low-preserved
loop-low-preserved g c =
    let low = c.loop-low.low in
    let high = c.loop-low.high in
    let mid = low + (high - low) / 2 in
    let rows = g.L.Ledger.rows c.args.rows.now in
    let lt = c.loop-low-test.true in
    let few = c.loop-low.invariant.1 in (
      omega (arith, lt),
      omega (arith, lt, few),
      λ o asc.
          let i = c.loop-low.invariant.2 o asc in
          let h = i.0 in
          let inside : mid < length rows = omega (arith, lt, h) in
          (omega (arith, inside), i.1, turn_left rows c.args.row.now.counts _ mid asc inside (c.row_at.ensures o inside) (sym c.if-comes_before.ensures)),
    )
