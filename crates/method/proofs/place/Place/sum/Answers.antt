use Rattle.std.proofs.Common.{rules}
use Rattle.method.proofs.Sums.{product_fits, total_fits, total_more}
use Rattle.method.proofs.place.Place.sum.Goals as goal

pub overflow_mul-total : goal.overflow_mul-total
overflow_mul-total c = product_fits c.args.self.now c.effects-effects.result.now c.args.row.now.counts c.loop-j.j c.effects-effects.ensures c.loop-j-test.true (search rules)

pub overflow_add-total : goal.overflow_add-total
overflow_add-total c =
    total_fits c.args.self.now c.effects-effects.result.now c.args.row.now.counts c.loop-j.j c.effects-effects.ensures c.loop-j-test.true (search rules) _ c.loop-j.invariant.0 c.loop-j.invariant.1

pub loop-j-preserved : goal.loop-j-preserved
loop-j-preserved c =
    total_more c.args.self.now c.effects-effects.result.now c.args.row.now.counts c.loop-j.j c.effects-effects.ensures c.loop-j-test.true (search rules) _ c.loop-j.invariant.0 c.loop-j.invariant.1
