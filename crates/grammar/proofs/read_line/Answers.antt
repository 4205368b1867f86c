use Rattle.std.proofs.Common.{rules}
use Rattle.grammar.proofs.Lines.{exactly}
use Rattle.grammar.proofs.read_line.Goals as goal

pub returns-in_err-opening-clause-exact : goal.returns-in_err-opening-clause-exact
returns-in_err-opening-clause-exact c = exactly _ _ _ (search rules)

pub returns-clause-exact : goal.returns-clause-exact
returns-clause-exact c = exactly _ _ _ (search rules)
