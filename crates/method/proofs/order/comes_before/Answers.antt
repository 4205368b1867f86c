use Rattle.std.proofs.Common.{◌∙◌}
use Rattle.method.proofs.Comparing.{is_before}
use Rattle.method.proofs.order.comes_before.Goals as goal

pub returns : goal.returns
returns c = c.is_lt.ensures ∙ is_before c.args.a.now.counts c.args.b.now.counts c.cmp.result c.cmp.ensures
