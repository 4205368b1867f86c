use Rattle.std.proofs.Common.{inr, rules}
use Rattle.grammar.proofs.Numbers.{zero_first}
use Rattle.grammar.proofs.reader.Reader.number.Goals as goal
use Rattle.grammar.proofs.reader.Reader.number.Goals.{then-has_signs, else-has_signs}

pub returns-then-value-eq0-clause-read : goal.returns-then-value-eq0-clause-read
returns-then-value-eq0-clause-read c =
    let first = zero_first _ _ _ c.in-Some.ensures.read.0 c.if-value-eq0.true in
    elim c.if-has_signs.branch [ then-has_signs w ↦ inr (search rules) | else-has_signs w ↦ absurd (search rules) ]
