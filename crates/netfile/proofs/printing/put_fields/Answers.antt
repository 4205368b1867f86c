use Rattle.std.proofs.Common.{◌∷◌, rules, arith}
use Rattle.netfile.proofs.Sinks.{each_more, each_short}
use Rattle.netfile.proofs.printing.put_fields.Goals as goal

pub returns-in_err-put_field : goal.returns-in_err-put_field
returns-in_err-put_field g c =
    let short =
    each_short g.met.S.Sink.piece_by_piece (λ n. 32 ∷ g.N.Integer.text n) c.args.numbers.now c.loop-n.n-index c.n-item.result c.n-item.result _ _ (omega arith) c.n-item.is c.loop-n.invariant c.in_err-put_field.ensures.1
    in
    search rules

pub loop-n-preserved : goal.loop-n-preserved
loop-n-preserved g c =
    each_more g.met.S.Sink.piece_by_piece (λ n. 32 ∷ g.N.Integer.text n) c.args.numbers.now c.loop-n.n-index c.n-item.result c.n-item.result _ _ _ (omega arith) c.n-item.is c.loop-n.invariant c.in_ok-put_field.ensures
