use Rattle.std.proofs.Common.{◌≡◌, take, ◌∙◌}
use Rattle.netfile.specs.Reading.{AsSheet}
use Rattle.netfile.proofs.Passed.{passed}
use Rattle.netfile.proofs.Numbers.{counts_held}
use Rattle.netfile.proofs.Listing.{few_rows}
use Rattle.netfile.proofs.Certificates.{question_refused, question_answered}
use Rattle.netfile.proofs.questions.ask_line.Goals as goal

pub returns-in_err-answer : goal.returns-in_err-answer
returns-in_err-answer g c i rs counts shows of =
    let sheet = c.args.sheet.now in
    let front : c.as_slice.result.now ≡ take 25 counts = c.as_slice.ensures.value ∙ c.values_of-counts.ensures ∙ counts_held i c.args.line.now counts shows in
    let few = few_rows sheet g.met.L.Ledger.positive g.met.L.Ledger.high g.met.L.Ledger.kept in
    passed (AsSheet _ _) c.from_residual.ensures.1 (question_refused sheet rs of counts _ _ front few c.certify.result c.certify.new.coefficients c.certify.ensures _ c.in_err-answer.was)

pub returns : goal.returns
returns g c i rs counts shows of =
    let sheet = c.args.sheet.now in
    let front : c.as_slice.result.now ≡ take 25 counts = c.as_slice.ensures.value ∙ c.values_of-counts.ensures ∙ counts_held i c.args.line.now counts shows in
    let few = few_rows sheet g.met.L.Ledger.positive g.met.L.Ledger.high g.met.L.Ledger.kept in
    question_answered sheet rs of counts _ _ front few c.certify.result c.certify.new.coefficients c.certify.ensures _ c.in_ok-answer.was
