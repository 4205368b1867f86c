use Rattle.std.proofs.Common.{◌≡◌, take}
use Rattle.ledger.specs.Packed.{pairs, expanded}
use Rattle.ledger.proofs.packed.unpack.Given as goal

abbrev pub invariant-loop-entry : goal.invariant-loop-entry
invariant-loop-entry l = l.row.counts ≡ expanded (pairs (take l.entry-index l.entries))
