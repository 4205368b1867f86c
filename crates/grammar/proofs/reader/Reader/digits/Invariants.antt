use Rattle.std.proofs.Common.{◌≡◌, ◌+◌, ◌≤◌, ◌++◌, length, decimal}
use Rattle.grammar.proofs.reader.Reader.digits.Given as goal

abbrev pub invariant-loop-value : goal.invariant-loop-value
invariant-loop-value l =
    (l.self.column + length l.self.rest.now ≡ l.fn.self.column + length l.fn.self.rest.now)
    × (l.fn.self.rest.now ≡ decimal l.value ++ l.self.rest.now)
    × (l.value ≤ 9999999)

abbrev pub decreases-loop-value : goal.decreases-loop-value
decreases-loop-value l = length l.self.rest.now
