use Rattle.std.proofs.Common.{◌≡◌, ◌+◌, ◌*◌, length, get_or, rules}
use Rattle.method.proofs.Arrays.{made_at}
use Rattle.method.proofs.Dividing.{is_weighted}
use Rattle.method.proofs.combine.weighted_sum.Goals as goal

pub returns : goal.returns
returns c =
    let u = c.args.u.now.row.counts in
    let v = c.args.v.now.row.counts in
    let wide : length u ≡ 24 = search rules in
    is_weighted c.args.r c.args.s u v c.from_fn.result wide c.from_fn.ensures.items.long
    (made_at _ _ (λ j. c.args.r * get_or u j 0 + c.args.s * get_or v j 0) 0 c.from_fn.result (λ j y q called. search rules) 24 c.from_fn.ensures.items)
