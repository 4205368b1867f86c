use Rattle.std.proofs.Common.{◌-◌, take}
use Rattle.std.specs.List.{flat_map}
use Rattle.sheet.specs.Sheets.{closed_list}
use Rattle.netfile.specs.Printouts.{row_line}
use Rattle.netfile.proofs.printout.Printout.put_rows.Given as goal

abbrev pub invariant-loop-k : goal.invariant-loop-k
invariant-loop-k g l = g.S.Sink.takes l.initial.sink (flat_map row_line (take (l.k - 1) (closed_list l.self.sheet.now))) l.sink
