use Rattle.cycle_theory.proofs.Theorems.{greatest_divisor}
use Rattle.cycle_theory.proofs.divisor_greatest.Goals as goal

pub returns : goal.returns
returns c = greatest_divisor
