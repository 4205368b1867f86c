use Rattle.std.proofs.Common.{◌≡◌, ◌≤◌, [], ◌∷◌, Ok, Err, get_or, sym, ap, ◌∙◌, subst}
use Rattle.netfile.specs.Files.{answer}
use Rattle.netfile.specs.Reading.{AsSheet, SheetOf}
use Rattle.netfile.proofs.Passed.{passed}
use Rattle.netfile.proofs.Offers.{said_steps, opened_steps, refused_steps}
use Rattle.netfile.proofs.net.open_line.Goals as goal

pub returns-in_err-steps-in_default-clause-said : goal.returns-in_err-steps-in_default-clause-said
returns-in_err-steps-in_default-clause-said g c i of shows zero =
    let said = said_steps i c.args.line.now of shows zero c.in_default.not-Standing in
    let value : c.first_number.result ≡ said.0 = c.first_number.ensures ∙ ap (λ l. get_or l 0 0) said.2 in
    let told = c.in_err-steps-in_default.ensures in
    passed (AsSheet _ _) c.from_residual.ensures.1
    (ap (answer g.L.Ledger []) said.1 ∙ refused_steps g.L.Ledger said.0 (subst (λ n. (1 ≤ n) × (n ≤ 24) → ⊥) value told.1) ∙ ap Err (sym told.0))

pub returns-in_ok-steps-in_default-clause-said : goal.returns-in_ok-steps-in_default-clause-said
returns-in_ok-steps-in_default-clause-said g c i of shows zero =
    let said = said_steps i c.args.line.now of shows zero c.in_default.not-Standing in
    let value : c.first_number.result ≡ said.0 = c.first_number.ensures ∙ ap (λ l. get_or l 0 0) said.2 in
    let few = c.in_ok-steps-in_default.steps.few in
    subst (λ r. (answer g.L.Ledger [] r ≡ Ok tt) × SheetOf c.open.result (r ∷ [])) (sym said.1)
    (opened_steps c.open.result c.in_ok-steps-in_default.steps.n said.0 c.open.ensures.opened (c.in_ok-steps-in_default.ensures ∙ value) few.0 few.1)
