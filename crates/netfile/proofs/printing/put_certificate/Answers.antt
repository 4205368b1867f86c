use Rattle.std.proofs.Common.{◌++◌}
use Rattle.netfile.specs.Printouts.{field, fields}
use Rattle.netfile.proofs.Sinks.{puts_both}
use Rattle.netfile.proofs.printing.put_certificate.Goals as goal

pub returns : goal.returns
returns g c =
    let k = g.met.S.Sink.piece_by_piece in
    let numbers = k.both _ _ _ (field c.args.multiplier) (fields c.args.coefficients.now) c.in_ok-put_field.ensures c.in_ok-put_fields.ensures in
    puts_both k _ _ _ _ _ _ c.in_ok-put.ensures (puts_both k _ _ _ (field c.args.multiplier ++ fields c.args.coefficients.now) _ _ numbers c.put-2.ensures)
