-- What a program prints for a net file.
--
--   Told f was n is        the fault line of f stands at the front of the buffer, n bytes long; or it has no room, and the buffer is as it was
--   Responds k s was r is  the response r to the file s on ledgers of kind k: the printout stands at the front of the buffer, or a fault is
--                          told that the run of s has; `was` is the buffer before, and `is` after
use Rattle.std.specs.Prelude.{◌≡◌, ℕ, ◌<◌, ◌⊎◌, List, length, Ok, Err, Result}
use Rattle.ledger.specs.declared.Ledger.{Ghosts as Kind}
use Rattle.console.specs.declared.FaultLine.{FaultLine}
use Rattle.netfile.specs.declared.fault.RunFault.{RunFault}
use Rattle.netfile.specs.Printouts.{fault_line, Wrote}
use Rattle.netfile.specs.Runs.{Faulty, RanWell}

abbrev pub Told : RunFault → List ℕ → ℕ → List ℕ → Type 0
Told f was n is = Wrote (fault_line f) (Ok n) was is ⊎ ((n ≡ 0) × (length was < length (fault_line f)) × (is ≡ was))

abbrev pub Responds : {L : Type 0} → Kind L → List ℕ → List ℕ → Result ℕ FaultLine → List ℕ → Type 0
Responds k s was (Ok n) is = RanWell k s was n is
Responds k s was (Err line) is = (f : RunFault) × (Faulty k s was f) × Told f was line.length is
