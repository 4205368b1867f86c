use Rattle.method.proofs.Placing.{kept_there}
use Rattle.method.proofs.order.put.Goals as goal

pub returns : goal.returns
returns g c = record {
  order = c.insert.ensures.order;
  put = λ o asc new.
      kept_there g.L.Ledger c.args.rows.now c.insert.new.self c.position-k.result c.args.held.now.row.counts asc (c.position-k.ensures.finds o asc) c.args.held.now.small new _ (c.insert.ensures.answer o);
}
