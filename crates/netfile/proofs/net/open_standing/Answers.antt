use Rattle.std.proofs.Common.{sym, ◌∙◌, arith}
use Rattle.netfile.specs.Standing.{standing_places}
use Rattle.netfile.specs.Reading.{AsSheet}
use Rattle.netfile.proofs.Passed.{passed}
use Rattle.netfile.proofs.Offers.{table_row, listed_answer, listed_places, offered_more, offered_stops}
use Rattle.netfile.proofs.net.open_standing.Goals as goal

pub returns-in_err-offer-clause-said : goal.returns-in_err-offer-clause-said
returns-in_err-offer-clause-said g c =
    let i = c.loop-place.place-index in
    let inv = c.loop-place.invariant in
    let row = table_row c.standing_net-places.result standing_places i _ c.standing_net-places.ensures.table (omega arith) in
    let told = sym (listed_answer c.loop-place.sheet c.offer.new.self 7 standing_places i _ c.offer.result inv.0 inv.1 c.offer.ensures.offered) ∙ c.in_err-offer.was in
    passed (AsSheet _ _) c.from_residual-in_err-offer.ensures.1 (offered_stops g.L.Ledger 7 standing_places i _ _ (omega arith) row told inv.2)

pub loop-place-preserved : goal.loop-place-preserved
loop-place-preserved g c =
    let i = c.loop-place.place-index in
    let inv = c.loop-place.invariant in
    let row = table_row c.standing_net-places.result standing_places i _ c.standing_net-places.ensures.table (omega arith) in
    let done = c.in_ok-offer.was in
    let told = sym (listed_answer c.loop-place.sheet c.offer.new.self 7 standing_places i _ c.offer.result inv.0 inv.1 c.offer.ensures.offered) ∙ done in (
      c.offer.ensures.offered.steps ∙ inv.0,
      listed_places c.loop-place.sheet c.offer.new.self 7 standing_places i _ c.offer.result (omega arith) row inv.1 c.offer.ensures.offered done,
      offered_more g.L.Ledger 7 standing_places i _ (omega arith) row told inv.2,
      c.offer.ensures.order inv.3,
    )
