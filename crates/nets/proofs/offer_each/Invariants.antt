use Rattle.std.proofs.Common.{ℕ, map}
use Rattle.method.specs.Places.{effects_of}
use Rattle.sheet.specs.Sheets.{Opened}
use Rattle.nets.proofs.Filling.{Reached}
use Rattle.nets.proofs.offer_each.Given as goal

abbrev pub invariant-loop-place : goal.invariant-loop-place
invariant-loop-place g l =
    (n : ℕ) → Opened n l.initial.sheet → Reached n (map effects_of l.places) l.place-index l.initial.sheet l.sheet
