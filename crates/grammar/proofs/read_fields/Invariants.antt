use Rattle.std.proofs.Common.{length}
use Rattle.inline_list.specs.Items.{items}
use Rattle.grammar.proofs.Fields.{Sofar}
use Rattle.grammar.proofs.read_fields.Given as goal

abbrev pub invariant-loop-reader : goal.invariant-loop-reader
invariant-loop-reader l = Sofar l.number l.bytes l.mark l.reader.column l.count (items l.fields) l.reader.rest.now

abbrev pub decreases-loop-reader : goal.decreases-loop-reader
decreases-loop-reader l = length l.reader.rest.now
