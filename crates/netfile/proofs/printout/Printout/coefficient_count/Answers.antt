use Rattle.std.proofs.Common.{◌≤◌, sym, subst}
use Rattle.netfile.proofs.Listing.{few_rows}
use Rattle.netfile.proofs.printout.Printout.coefficient_count.Goals as goal

pub returns-clause-few : goal.returns-clause-few
returns-clause-few g c =
    subst (λ n. n ≤ 1024) (sym c.row_count.ensures) (few_rows c.args.self.now.sheet.now g.met.L.Ledger.positive g.met.L.Ledger.high g.met.L.Ledger.kept)
