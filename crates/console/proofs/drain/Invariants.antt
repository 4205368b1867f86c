use Rattle.std.proofs.Common.{◌≡◌, length}
use Rattle.console.proofs.drain.Given as goal

abbrev pub invariant-loop : goal.invariant-loop
invariant-loop g l = length l.rest ≡ 4096
