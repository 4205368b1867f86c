use Rattle.std.proofs.Common.{ℕ, [], ◌∷◌, ◌++◌, codes, length, subst}
use Rattle.std.specs.List.{flat_map}
use Rattle.sheet.specs.Sheets.{closed_list}
use Rattle.netfile.specs.Printouts.{line, row_line}
use Rattle.netfile.specs.Reading.{judged_line}
use Rattle.netfile.proofs.Sinks.{puts_both}
use Rattle.netfile.proofs.printout.PrintoutText.put_into.Goals as goal

pub returns : goal.returns
returns g c =
    let k = g.met.S.Sink.piece_by_piece in
    let printout = c.args.self.now in
    let rows = closed_list printout.sheet.now in
    let counted = subst (λ (n : ℕ). g.S.Sink.takes c.args.sink.now (line (codes "M:") (n ∷ [])) c.put_line.new.sink) c.row_count.ensures c.in_ok-put_line.ensures in
    let listed = k.both _ _ _ (line (codes "M:") (length rows ∷ [])) (flat_map row_line rows) counted c.in_ok-put_rows.ensures in
    puts_both k _ _ _ (line (codes "M:") (length rows ∷ []) ++ flat_map row_line rows) (flat_map (judged_line (length rows)) printout.answers.now) _ listed c.put_answers.ensures
