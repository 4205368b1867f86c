use Rattle.std.proofs.Common.{◌≡◌, ℕ, ◌<◌}
use Rattle.cycle_theory.specs.Nets.{at}
use Rattle.certificate.specs.Shares.{coefficient}
use Rattle.sheet.proofs.certify.write_coefficients.Given as goal

-- the first k entries are written
abbrev pub invariant-loop-k : goal.invariant-loop-k
invariant-loop-k l = (j : ℕ) → j < l.k → at l.entry-items j ≡ coefficient l.certificate j
