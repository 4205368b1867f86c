use Rattle.std.proofs.Common.{arith}
use Rattle.grammar.proofs.Marks.{unlettered, uncolon}
use Rattle.grammar.proofs.mark.read_mark.Goals as goal

pub returns-in_default-mark_of : goal.returns-in_default-mark_of
returns-in_default-mark_of c = (unlettered _ (λ some. c.in_default-mark_of.ensures), omega arith)

pub returns-then-b-ne58 : goal.returns-then-b-ne58
returns-then-b-ne58 c = (uncolon _ _ (omega arith) c.in-Some.ensures (λ more colon. omega arith), omega arith)
