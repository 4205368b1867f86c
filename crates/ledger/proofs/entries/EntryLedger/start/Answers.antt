use Rattle.std.proofs.Common.{◌<◌, ◌≤◌, length, vec_items, sum, ap, arith, rules}
use Rattle.std.proofs.lemmas.List.Sums.{sum_by-take-le, sum_by_more_le}
use Rattle.ledger.proofs.entries.EntryLedger.start.Goals as goal

pub sum-requires-clause-fits : goal.sum-requires-clause-fits
sum-requires-clause-fits c =
    let t = sum_by-take-le (λ x. x) (vec_items c.args.self.now.sizes) c.args.i in
    let v = ap sum c.deref.ensures.value in
    let small : sum c.deref.result.now ≤ 1024 = omega (arith, t, v, c.args.self.now.sized, c.args.self.now.few) in
    search rules

pub returns-clause-within : goal.returns-clause-within
returns-clause-within c = let t = sum_by-take-le (λ x. x) (vec_items c.args.self.now.sizes) c.args.i in search rules

pub returns-clause-ends : goal.returns-clause-ends
returns-clause-ends c = λ h.
    let inside : c.args.i < length (vec_items c.args.self.now.sizes) = search rules in
    let t = sum_by_more_le (λ x. x) (vec_items c.args.self.now.sizes) c.args.i 0 inside in
    search rules
