use Rattle.std.proofs.Common.{rules}
use Rattle.netfile.proofs.Sinks.{puts_both}
use Rattle.netfile.proofs.printing.put_field.Goals as goal

pub returns : goal.returns
returns g c = puts_both g.met.S.Sink.piece_by_piece _ _ _ _ _ _ c.in_ok-put.ensures (search rules)
