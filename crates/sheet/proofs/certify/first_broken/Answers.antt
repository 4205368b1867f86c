use Rattle.std.proofs.Common.{◌≡◌, position, rules}
use Rattle.std.proofs.lemmas.Iterator.{YieldsList-from_slice}
use Rattle.std.proofs.lemmas.Iterator.Search.{position_from_yields_List}
use Rattle.sheet.proofs.Breaking.{fails, told_from_one}
use Rattle.sheet.proofs.certify.first_broken.Goals as goal

pub returns : goal.returns
returns c =
    let places = c.args.places.now in
    let x = c.args.counts.now.counts in
    let at : c.position-broken.result ≡ position (fails x) places =
    position_from_yields_List (fails x) _ _ c.position-broken.result c.position-broken.ensures.ran (YieldsList-from_slice places c.iter.ensures.rest)
    (λ e b q called. (search rules, search rules)) in
    told_from_one x places c.position-broken.result c.map.result at (search rules)
