use Rattle.std.proofs.Common.{length, rules, arith, refl}
use Rattle.sheet.specs.Sheets.{closed_list}
use Rattle.netfile.specs.Reading.{judged_line}
use Rattle.netfile.proofs.Sinks.{each_more, each_short}
use Rattle.netfile.proofs.printout.Printout.put_answers.Goals as goal

pub returns-in_err-put_answer : goal.returns-in_err-put_answer
returns-in_err-put_answer g c =
    let printout = c.args.self.now in
    let text = judged_line (length (closed_list printout.sheet.now)) in
    let short =
    each_short g.met.S.Sink.piece_by_piece text printout.answers.now c.loop-judged.judged-index _ _ _ _ (omega arith) refl c.loop-judged.invariant c.in_err-put_answer.ensures.1
    in
    search rules

pub loop-judged-preserved : goal.loop-judged-preserved
loop-judged-preserved g c =
    let printout = c.args.self.now in
    let text = judged_line (length (closed_list printout.sheet.now)) in
    each_more g.met.S.Sink.piece_by_piece text printout.answers.now c.loop-judged.judged-index _ _ _ _ _ (omega arith) refl c.loop-judged.invariant c.in_ok-put_answer.ensures
