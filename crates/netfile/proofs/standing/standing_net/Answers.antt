use Rattle.cycle_theory.proofs.Theorems.{tss_minimal}
use Rattle.netfile.specs.Standing.{standing_places}
use Rattle.netfile.proofs.standing.standing_net.Goals as goal

pub returns-clause-cycles : goal.returns-clause-cycles
returns-clause-cycles c = tss_minimal 7 standing_places
