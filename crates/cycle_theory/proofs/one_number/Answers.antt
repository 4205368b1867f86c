use Rattle.cycle_theory.proofs.Theorems.{one_number}
use Rattle.cycle_theory.proofs.one_number.Goals as goal

pub returns : goal.returns
returns c = one_number
