use Rattle.std.proofs.Common.{◌∙◌, arith}
use Rattle.grammar.proofs.Numbers.{one_digit, next_digit}
use Rattle.grammar.proofs.reader.Reader.digits.Goals as goal

pub loop-value-init : goal.loop-value-init
loop-value-init c =
    let first = c.in_ok-value.ensures in
    (first.column, one_digit _ _ _ first.read.0 first.read.1, omega arith)

pub loop-value-preserved : goal.loop-value-preserved
loop-value-preserved c =
    let digit = c.in-Some.ensures in
    let before = c.loop-value.invariant in
    (digit.column ∙ before.0, next_digit _ _ _ _ _ before.1 digit.read.0 digit.read.1 (omega arith) (omega arith), omega arith)
