use Rattle.std.proofs.Common.{◌≡◌, ◌+◌, ◌≤◌, ◌++◌, length, take, drop, vec_items, vec_capacity}
use Rattle.ledger.specs.Packed.{pairs, packed}
use Rattle.ledger.proofs.packed.pack.Given as goal

abbrev pub invariant-loop-step : goal.invariant-loop-step
invariant-loop-step l =
    (l.next ≡ l.at + length (packed l.row.counts l.step))
    × (pairs (vec_items l.entries) ≡ take l.at (pairs (vec_items l.initial.entries)) ++ (packed l.row.counts l.step ++ drop l.at (pairs (vec_items l.initial.entries))))
    × (vec_capacity l.initial.entries ≤ vec_capacity l.entries)
