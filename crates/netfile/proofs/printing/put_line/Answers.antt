use Rattle.netfile.proofs.Sinks.{puts_both}
use Rattle.netfile.proofs.printing.put_line.Goals as goal

pub returns : goal.returns
returns g c =
    let k = g.met.S.Sink.piece_by_piece in
    puts_both k _ _ _ _ _ _ c.in_ok-put.ensures (puts_both k _ _ _ _ _ _ c.in_ok-put_fields.ensures c.put-2.ensures)
