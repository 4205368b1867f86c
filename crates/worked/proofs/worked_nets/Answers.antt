-- The test of the table computes to true, so `refl` shows it.
use Rattle.std.proofs.Common.{refl}
use Rattle.cycle_theory.specs.Walk.{least_to, walk_from}
use Rattle.worked.proofs.Entries.{all_right}
use Rattle.worked.proofs.worked_nets.Goals as goal

pub returns : goal.returns
unfolding least_to walk_from
returns c = all_right _ refl
