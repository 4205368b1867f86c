use Rattle.std.proofs.Common.{◌≡◌, rules}
use Rattle.std.specs.List.{list_any}
use Rattle.std.proofs.lemmas.Iterator.{YieldsList-from_slice}
use Rattle.std.proofs.lemmas.Iterator.Search.{any_from_yields_List}
use Rattle.method.proofs.Covering.{is_third, third_decides}
use Rattle.method.proofs.third.third_row.Goals as goal

pub returns : goal.returns
returns c p rows surveyed ta tb =
    let a = c.args.a.now in
    let b = c.args.b.now in
    let s = c.args.survey.now in
    let any : c.any.result ≡ list_any (is_third a b) s = any_from_yields_List (is_third a b) _ _ c.any.result c.any.ensures.ran (YieldsList-from_slice s c.iter.ensures.rest) (λ r t q called. (search rules, search rules)) in
    third_decides p rows s a b surveyed ta tb c.any.result any
