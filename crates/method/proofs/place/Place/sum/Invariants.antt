use Rattle.std.proofs.Common.{◌≡◌, ◌*◌, take}
use Rattle.cycle_theory.specs.Nets.{sum}
use Rattle.method.proofs.Sums.{Between}
use Rattle.method.proofs.place.Place.sum.Given as goal

abbrev pub invariant-loop-j : goal.invariant-loop-j
invariant-loop-j l = (l.total ≡ sum (take l.j l.effects) l.row.counts) × Between (4294967295000 * l.j) l.total
