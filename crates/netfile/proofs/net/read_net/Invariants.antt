use Rattle.std.proofs.Common.{List, ℕ, length}
use Rattle.sheet.specs.Order.{Ordered}
use Rattle.netfile.specs.Reading.{Unbegun}
use Rattle.netfile.proofs.Nets.{NetSofar}
use Rattle.netfile.proofs.net.read_net.Given as goal

abbrev pub invariant-loop-sheet : goal.invariant-loop-sheet
invariant-loop-sheet g l = ((s : List ℕ) → Unbegun s l.fn.reader → NetSofar g.L.Ledger s l.reader l.sheet) × Ordered l.sheet

abbrev pub decreases-loop-sheet : goal.decreases-loop-sheet
decreases-loop-sheet g l = length l.reader.rest.now
