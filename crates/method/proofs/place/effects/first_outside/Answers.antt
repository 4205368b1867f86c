use Rattle.std.proofs.Common.{◌≡◌, position, rules}
use Rattle.std.proofs.lemmas.Iterator.{YieldsList-from_slice}
use Rattle.std.proofs.lemmas.Iterator.Search.{position_from_yields_List}
use Rattle.method.specs.Effects.{outside}
use Rattle.method.proofs.Outside.{told}
use Rattle.method.proofs.place.effects.first_outside.Goals as goal

pub returns : goal.returns
returns c =
    let p = c.args.effects.now in
    let at : c.position.result ≡ position outside p = position_from_yields_List outside _ _ c.position.result c.position.ensures.ran (YieldsList-from_slice p c.iter.ensures.rest) (λ e b q called. (search rules, search rules)) in
    told p c.position.result c.map.result at (search rules)
