use Rattle.std.proofs.Common.{◌≡◌, ◌-◌, ℕ, List, [], take, ap, ◌∙◌, subst, arith, slice_index_or}
use Rattle.sheet.specs.Sheets.{closed_list}
use Rattle.netfile.specs.Sinks.{Puts}
use Rattle.netfile.specs.Printouts.{row_line}
use Rattle.netfile.proofs.Listing.{row_read}
use Rattle.netfile.proofs.printout.Printout.put_row.Goals as goal

pub returns : goal.returns
returns g c =
    let sheet = c.args.self.now.sheet.now in
    let whole : c.steps.result - 0 ≡ sheet.steps.n = let e = c.steps.ensures in omega arith in
    let row : take (c.steps.result - 0) c.read_row.new.out ≡ slice_index_or (closed_list sheet) (c.args.k - 1) [] =
    ap (λ n. take n c.read_row.new.out) whole ∙ row_read sheet c.args.k _ c.read_row.result c.read_row.new.out c.requires.0 c.requires.1 c.read_row.ensures c.in_ok-read_row.was
    in
    subst (λ (x : List ℕ). Puts g.S.Sink.room g.S.Sink.takes c.args.sink.now (row_line x) c.put_line.result c.put_line.new.sink) row c.put_line.ensures
