use Rattle.std.proofs.Common.{arith}
use Rattle.method.proofs.Placing.{length_le}
use Rattle.method.proofs.held.row_count.Goals as goal

pub returns-clause-is : goal.returns-clause-is
returns-clause-is g c o =
    let laws = g.met.L.Ledger in
    let n = c.len.ensures o in
    let few = length_le g.L.Ledger.charge laws.positive (g.L.Ledger.rows c.args.rows.now) in
    let fits = (laws.kept c.args.rows.now o).fits in
    let high = laws.high in
    omega (arith, n, few, fits, high)
