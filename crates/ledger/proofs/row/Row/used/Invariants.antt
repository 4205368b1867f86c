use Rattle.ledger.proofs.Masks.{MaskUpto}
use Rattle.ledger.proofs.row.Row.used.Given as goal

abbrev pub invariant-loop-j : goal.invariant-loop-j
invariant-loop-j l = MaskUpto l.self.counts l.mask l.j
