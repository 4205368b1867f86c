use Rattle.std.proofs.Common.{◌≡◌, ℕ, ◌-◌, ◌*◌, ◌<◌, ◌≤◌}
use Rattle.cycle_theory.specs.Nets.{at}
use Rattle.cycle_theory.specs.Walk.{most}
use Rattle.certificate.proofs.round.left.Given as goal

abbrev pub invariant-loop-j : goal.invariant-loop-j
invariant-loop-j l = record {
  done : (k : ℕ) → k < l.j → at l.count-items k ≡ l.ratio.bottom * at l.rest.counts k - l.ratio.top * at l.row.counts k;
  low : (k : ℕ) → k < l.j → at l.count-items k ≤ most;
  kept : (k : ℕ) → l.j ≤ k → at l.count-items k ≡ at l.rest.counts k;
}
