use Rattle.std.proofs.Common.{refl}
use Rattle.sheet.proofs.Histories.{one_run}
use Rattle.sheet.proofs.Orders.{held_in_order}
use Rattle.sheet.proofs.sheets.OpenSheet.close.Goals as goal

pub returns-clause-promise : goal.returns-clause-promise
returns-clause-promise g c n h came = one_run n h c.args.self _ came (record { steps = refl; places = refl; rows = refl })

pub returns-clause-order : goal.returns-clause-order
returns-clause-order g c n h came kept = held_in_order n h c.args.self came kept
