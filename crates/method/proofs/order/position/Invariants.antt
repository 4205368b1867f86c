use Rattle.std.proofs.Common.{ℕ, ◌-◌, ◌<◌, ◌≤◌, length}
use Rattle.cycle_theory.specs.Nets.{Before, Ascending}
use Rattle.method.specs.Ascents.{row_at}
use Rattle.method.proofs.order.position.Given as goal

abbrev pub invariant-loop-low : goal.invariant-loop-low
invariant-loop-low g l = let rows = g.L.Ledger.rows l.rows in
    (l.low ≤ l.high) × (l.high ≤ 1024)
    × (g.L.Ledger.orderly l.rows → Ascending rows →
    (l.high ≤ length rows)
    × ((i : ℕ) → i < l.low → Before (row_at rows i) l.row.counts)
    × ((i : ℕ) → l.high ≤ i → i < length rows → Before (row_at rows i) l.row.counts → ⊥))

abbrev pub decreases-loop-low : goal.decreases-loop-low
decreases-loop-low g l = l.high - l.low
