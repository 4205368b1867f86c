use Rattle.std.proofs.Common.{◌≤◌, map, length, arith}
use Rattle.std.proofs.lemmas.List.{length-map}
use Rattle.std.proofs.lemmas.Result.{err_from_is_err_and}
use Rattle.method.specs.Places.{effects_of}
use Rattle.nets.proofs.Filling.{offered_at, reached_more, reached_stop, reached_all, reached_in_order}
use Rattle.nets.proofs.offer_each.Goals as goal

pub returns-in_err-offer-clause-offered : goal.returns-in_err-offer-clause-offered
returns-in_err-offer-clause-offered g c n o =
    let at = offered_at c.args.places.now c.loop-place.place-index c.loop-place-test.true c.place-item.result c.place-item.is c.effects.result.now c.effects.ensures in
    let p = err_from_is_err_and c.from_residual.result c.from_residual.ensures.1 in
    rw (p.1, p.2)
    (reached_stop n (map effects_of c.args.places.now) _ c.loop-place.place-index c.loop-place.sheet c.offer.new.self c.effects.result.now (c.loop-place.invariant n o) at.1 at.0 _ c.in_err-offer.ensures.offered)

pub loop-place-preserved : goal.loop-place-preserved
loop-place-preserved g c n o =
    let at = offered_at c.args.places.now c.loop-place.place-index c.loop-place-test.true c.place-item.result c.place-item.is c.effects.result.now c.effects.ensures in
    reached_more n (map effects_of c.args.places.now) _ c.loop-place.place-index c.loop-place.sheet c.offer.new.self c.effects.result.now (c.loop-place.invariant n o) at.1 at.0 c.in_ok-offer.ensures.offered c.in_ok-offer.ensures.order

pub returns : goal.returns
returns g c =
    let places = c.args.places.now in
    let all : length (map effects_of places) ≤ c.loop-place.place-index = omega (arith, length-map places effects_of, c.loop-place-test.false) in
    record {
      offered = λ n o. reached_all n (map effects_of places) _ c.loop-place.place-index c.loop-place.sheet all (c.loop-place.invariant n o);
      order = λ n o. reached_in_order n (map effects_of places) _ c.loop-place.place-index c.loop-place.sheet all (c.loop-place.invariant n o);
    }
