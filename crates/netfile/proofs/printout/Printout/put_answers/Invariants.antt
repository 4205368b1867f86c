use Rattle.std.proofs.Common.{length, take}
use Rattle.std.specs.List.{flat_map}
use Rattle.sheet.specs.Sheets.{closed_list}
use Rattle.netfile.specs.Reading.{judged_line}
use Rattle.netfile.proofs.printout.Printout.put_answers.Given as goal

abbrev pub invariant-loop-judged : goal.invariant-loop-judged
invariant-loop-judged g l =
    g.S.Sink.takes l.initial.sink (flat_map (judged_line (length (closed_list l.self.sheet.now))) (take l.judged-index l.self.answers.now)) l.sink
