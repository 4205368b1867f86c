use Rattle.certificate.proofs.Passing.{Passing}
use Rattle.certificate.proofs.walking.walk.Given as goal

abbrev pub invariant-loop-i : goal.invariant-loop-i
invariant-loop-i g l = g.L.Ledger.orderly l.rows → Passing (g.L.Ledger.rows l.rows) l.question.counts l.i l.walk
