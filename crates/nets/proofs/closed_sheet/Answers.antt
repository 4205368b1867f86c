use Rattle.std.proofs.Common.{map}
use Rattle.method.specs.Places.{effects_of}
use Rattle.sheet.specs.Runs.{ClosedBy}
use Rattle.nets.specs.Nets.{SheetOf}
use Rattle.nets.proofs.closed_sheet.Goals as goal

pub returns : goal.returns
returns g c =
    let n = c.args.net.steps.n in
    let f = c.in_ok-offer_each.ensures.order n c.open-sheet.ensures.opened c.open-sheet.ensures.order in
    let closed : ClosedBy n f.filled.history c.close.result = (c.offer_each.new.sheet, f.filled.came, c.close.ensures.closed) in
    let sheet : SheetOf n (map effects_of c.args.net.places.now) c.close.result =
    record { accepts = f.filled.accepts; history = f.filled.history; closed = closed; places_are = f.filled.places_are } in
    record { made = sheet; order = record { sheet = sheet; kept = f.kept; rows = (c.close.ensures.order n f.filled.history f.filled.came f.kept).order } }
