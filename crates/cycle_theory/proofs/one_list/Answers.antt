use Rattle.cycle_theory.proofs.Theorems.{one_list}
use Rattle.cycle_theory.proofs.one_list.Goals as goal

pub returns : goal.returns
returns c = one_list
