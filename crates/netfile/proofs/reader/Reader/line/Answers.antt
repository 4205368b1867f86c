use Rattle.std.proofs.Common.{◌≡◌, Err, sym, rules, subst}
use Rattle.std.proofs.lemmas.Result.{MatchResult-at_ok, MatchResult-at_err}
use Rattle.netfile.specs.Order.{Ordered}
use Rattle.netfile.specs.Reading.{Told}
use Rattle.netfile.proofs.Passed.{passed, Mapped, mapped_as, mapped, unmapped}
use Rattle.netfile.proofs.Lines.{broken_at, mark_broken, line_told}
use Rattle.netfile.proofs.reader.Reader.line.Goals as goal

pub returns-in_err-opening : goal.returns-in_err-opening
returns-in_err-opening c =
    let r = c.args.self.now in
    let told : Mapped (λ e d. d ≡ broken_at r e) c.read_mark.result c.map_err.result = mapped_as (λ e d. d ≡ broken_at r e) _ _ _ (λ e d h. search rules) c.map_err.ensures.cases in
    let p = mapped (λ e d. d ≡ broken_at r e) _ told c.in_err-opening.was in
    passed (Told r) c.from_residual.ensures.1 (subst (λ f. Told r (Err f)) (sym p.2) (mark_broken r c.requires p.0 (MatchResult-at_err _ _ p.0 p.1 c.read_mark.ensures)))

pub returns : goal.returns
returns c =
    let r = c.args.self.now in
    let opening = c.in_ok-opening.opening in
    let opened = MatchResult-at_ok _ _ opening (unmapped _ _ c.map_err.ensures.cases c.in_ok-opening.was) c.read_mark.ensures in
    let may = subst (Ordered r.before r.questions opening.mark) (unmapped _ _ c.map_err-2.ensures.cases c.in_ok-map_err.was) c.in_order.ensures in
    line_told r c.requires opening.mark opening.rest.now opened may c.read_line.result c.read_line.ensures.told c.map_err-3.result
    (mapped_as (λ e d. d ≡ broken_at r e) _ _ _ (λ e d h. search rules) c.map_err-3.ensures.cases)
