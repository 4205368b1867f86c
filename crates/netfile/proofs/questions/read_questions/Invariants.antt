use Rattle.std.proofs.Common.{List, ℕ, length}
use Rattle.inline_list.specs.Items.{items}
use Rattle.netfile.specs.Reading.{NetRead}
use Rattle.netfile.proofs.Answering.{Asking}
use Rattle.netfile.proofs.questions.read_questions.Given as goal

abbrev pub invariant-loop-line : goal.invariant-loop-line
invariant-loop-line g l = (s : List ℕ) → NetRead g.L.Ledger s l.fn.reader l.sheet → Asking g.L.Ledger s l.reader l.sheet (items l.answers)

abbrev pub decreases-loop-line : goal.decreases-loop-line
decreases-loop-line g l = length l.reader.rest.now
