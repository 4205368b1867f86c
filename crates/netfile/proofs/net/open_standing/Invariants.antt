use Rattle.std.proofs.Common.{◌≡◌, [], take, drop}
use Rattle.sheet.specs.Sheets.{steps_of, places_of}
use Rattle.sheet.specs.Order.{Ordered}
use Rattle.netfile.specs.Standing.{standing_places}
use Rattle.netfile.specs.Files.{offered}
use Rattle.netfile.proofs.net.open_standing.Given as goal

abbrev pub invariant-loop-place : goal.invariant-loop-place
invariant-loop-place g l =
    (steps_of l.sheet ≡ 7)
    × (places_of l.sheet ≡ take l.place-index standing_places)
    × (offered g.L.Ledger 7 [] standing_places ≡ offered g.L.Ledger 7 (take l.place-index standing_places) (drop l.place-index standing_places))
    × Ordered l.sheet
