use Rattle.std.proofs.Common.{Ok}
use Rattle.inline_list.specs.Items.{items}
use Rattle.netfile.proofs.Passed.{at_fault}
use Rattle.netfile.proofs.Runs.{sheet_read}
use Rattle.netfile.proofs.OneAnswer.{one_reading, only_sheet}
use Rattle.netfile.proofs.running.read_sheet.Goals as goal

pub returns-in_err-sheet-clause-only : goal.returns-in_err-sheet-clause-only
returns-in_err-sheet-clause-only g c = only_sheet g.L.Ledger c.args.file.now c.from_residual.result (at_fault _ _ _ c.from_residual.ensures.1 c.in_err-sheet.ensures.read)

pub returns-in_err-sheet-clause-one : goal.returns-in_err-sheet-clause-one
returns-in_err-sheet-clause-one g c = one_reading g.L.Ledger

pub returns-clause-only : goal.returns-clause-only
returns-clause-only g c =
    let s = c.args.file.now in
    let sheet = c.in_ok-sheet.sheet in
    only_sheet g.L.Ledger s (Ok sheet) (sheet_read g.L.Ledger s sheet (items c.read_file.new.answers) c.in_ok-sheet.ensures.read.1 c.in_ok-sheet.ensures.read.0)

pub returns-clause-one : goal.returns-clause-one
returns-clause-one g c = one_reading g.L.Ledger
