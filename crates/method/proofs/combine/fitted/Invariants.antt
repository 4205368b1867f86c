use Rattle.std.proofs.Common.{◌≡◌, ℕ, ◌<◌, ◌≤◌, length, get_or}
use Rattle.method.proofs.combine.fitted.Given as goal

abbrev pub invariant-loop-j : goal.invariant-loop-j
invariant-loop-j l = (length l.row.counts ≡ 24) × ((k : ℕ) → k < l.j → (get_or l.row.counts k 0 ≡ get_or l.counts k 0) × (get_or l.counts k 0 ≤ 1048575))
