use Rattle.std.proofs.Common.{◌≡◌, length}
use Rattle.inline_list.specs.Items.{items}
use Rattle.method.specs.Places.{effects_of}
use Rattle.method.proofs.Surveying.{Front}
use Rattle.method.proofs.survey.survey_of.Given as goal

abbrev pub invariant-loop-k : goal.invariant-loop-k
invariant-loop-k g l = (length (items l.survey) ≡ l.k) × (g.L.Ledger.orderly l.rows → Front (effects_of l.place) (g.L.Ledger.rows l.rows) (items l.survey))
