use Rattle.std.proofs.Common.{◌≡◌, take, sym, ◌∙◌}
use Rattle.netfile.specs.Reading.{AsSheet}
use Rattle.netfile.proofs.Passed.{passed}
use Rattle.netfile.proofs.Numbers.{effects_held}
use Rattle.netfile.proofs.Offers.{offer_answer, offer_accepted}
use Rattle.netfile.proofs.net.offer_line.Goals as goal

pub returns-in_err-offer-clause-said : goal.returns-in_err-offer-clause-said
returns-in_err-offer-clause-said g c i rs effects shows of =
    let front : c.as_slice.result.now ≡ take 25 effects = c.as_slice.ensures.value ∙ c.values_of-effects.ensures ∙ effects_held i c.args.line.now effects shows in
    passed (AsSheet _ _) c.from_residual.ensures.1 (sym (offer_answer _ _ rs effects _ _ front of c.offer.ensures.offered) ∙ c.in_err-offer.was)

pub returns-clause-said : goal.returns-clause-said
returns-clause-said g c i rs effects shows of =
    let front : c.as_slice.result.now ≡ take 25 effects = c.as_slice.ensures.value ∙ c.values_of-effects.ensures ∙ effects_held i c.args.line.now effects shows in
    (sym (offer_answer _ _ rs effects _ _ front of c.offer.ensures.offered) ∙ c.in_ok-offer.was, offer_accepted _ _ rs effects _ _ front of c.offer.ensures.offered c.in_ok-offer.was)
