use Rattle.cycle_theory.proofs.Theorems.{same_steps}
use Rattle.cycle_theory.proofs.same_steps.Goals as goal

pub returns : goal.returns
returns c = same_steps
