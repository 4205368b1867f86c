use Rattle.std.proofs.Common.{arith}
use Rattle.netfile.proofs.Passed.{at_fault}
use Rattle.netfile.proofs.Runs.{unread}
use Rattle.netfile.proofs.running.read_file.Goals as goal

pub returns-in_err-sheet-clause-read : goal.returns-in_err-sheet-clause-read
returns-in_err-sheet-clause-read g c =
    let s = c.args.file.now in
    at_fault _ _ _ c.from_residual.ensures.1 (unread g.L.Ledger s _ (omega arith) (c.in_err-sheet.ensures.read s c.new-reader.ensures))

pub read_questions-requires-clause-net : goal.read_questions-requires-clause-net
read_questions-requires-clause-net g c = let s = c.args.file.now in (s, c.in_ok-sheet.ensures.read s c.new-reader.ensures)

pub returns-in_err-read_questions-clause-read : goal.returns-in_err-read_questions-clause-read
returns-in_err-read_questions-clause-read g c =
    let s = c.args.file.now in
    at_fault _ _ _ c.from_residual-in_err-read_questions.ensures.1 (unread g.L.Ledger s _ (omega arith) (c.in_err-read_questions.ensures s (c.in_ok-sheet.ensures.read s c.new-reader.ensures)))
