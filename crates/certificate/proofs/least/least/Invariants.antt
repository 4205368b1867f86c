use Rattle.std.proofs.Common.{◌≡◌, length}
use Rattle.cycle_theory.specs.Walk.{least_to}
use Rattle.certificate.specs.Ratios.{ratio_of}
use Rattle.certificate.proofs.least.least.Given as goal

abbrev pub invariant-loop-bottom : goal.invariant-loop-bottom
invariant-loop-bottom l = ratio_of l.best ≡ least_to (length l.yielded) l.row.counts l.rest.counts
