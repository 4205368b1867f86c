use Rattle.std.proofs.Common.{◌≡◌, ◌≤◌, take}
use Rattle.ledger.specs.Rows.{nonzeros}
use Rattle.ledger.proofs.row.Row.nonzeros.Given as goal

abbrev pub invariant-loop-count : goal.invariant-loop-count
invariant-loop-count l = (l.n ≡ nonzeros (take l.count-index l.self.counts)) × (l.n ≤ l.count-index)
