use Rattle.std.proofs.Common.{arith}
use Rattle.grammar.proofs.Marks.{unlettered, uncolon}
use Rattle.grammar.proofs.mark.cut_mark.Goals as goal

pub returns-in_default : goal.returns-in_default
returns-in_default c = (unlettered _ (λ some. absurd (omega arith)), omega arith)

pub returns-in_default-mark_of : goal.returns-in_default-mark_of
returns-in_default-mark_of c = (unlettered _ (λ some. c.in_default-mark_of.ensures), omega arith)

pub returns : goal.returns
returns c = (uncolon _ _ (omega arith) c.in-Some.ensures (λ more. absurd (omega arith)), omega arith)
