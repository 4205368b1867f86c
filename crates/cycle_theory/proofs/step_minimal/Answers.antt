use Rattle.cycle_theory.proofs.Theorems.{step_minimal}
use Rattle.cycle_theory.proofs.step_minimal.Goals as goal

pub returns : goal.returns
returns c = step_minimal
