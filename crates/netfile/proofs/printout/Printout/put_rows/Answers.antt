use Rattle.std.proofs.Common.{◌≡◌, ◌+◌, ◌-◌, ℕ, [], take, rules, arith, refl, subst}
use Rattle.std.specs.List.{flat_map}
use Rattle.sheet.specs.Sheets.{closed_list}
use Rattle.netfile.specs.Printouts.{row_line}
use Rattle.netfile.proofs.Sinks.{each_more, each_last, each_short}
use Rattle.netfile.proofs.printout.Printout.put_rows.Goals as goal

pub returns-in_err-put_row : goal.returns-in_err-put_row
returns-in_err-put_row g c =
    let sheet = c.args.self.now.sheet.now in
    let many = c.row_count-k-end.ensures in
    let short =
    each_short g.met.S.Sink.piece_by_piece row_line (closed_list sheet) (c.loop-k.k - 1) _ [] _ _ (omega arith) refl c.loop-k.invariant c.in_err-put_row.ensures.1
    in
    search rules

pub loop-k-preserved : goal.loop-k-preserved
loop-k-preserved g c =
    let sheet = c.args.self.now.sheet.now in
    let rows = closed_list sheet in
    let many = c.row_count-k-end.ensures in
    let next : c.loop-k.k - 1 + 1 ≡ c.loop-k.k + 1 - 1 = omega arith in
    subst (λ (i : ℕ). g.S.Sink.takes c.args.sink.now (flat_map row_line (take i rows)) c.put_row.new.sink) next
    (each_more g.met.S.Sink.piece_by_piece row_line rows (c.loop-k.k - 1) _ [] _ _ _ (omega arith) refl c.loop-k.invariant c.in_ok-put_row.ensures)

pub returns-in_ok-put_row : goal.returns-in_ok-put_row
returns-in_ok-put_row g c =
    let sheet = c.args.self.now.sheet.now in
    let many = c.row_count-k-end.ensures in
    each_last g.met.S.Sink.piece_by_piece row_line (closed_list sheet) (c.loop-k.k - 1) _ [] _ _ _ (omega arith) refl c.loop-k.invariant c.in_ok-put_row.ensures
