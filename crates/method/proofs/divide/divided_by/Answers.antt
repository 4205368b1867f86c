use Rattle.std.proofs.Common.{◌/◌, get_or, rules}
use Rattle.method.proofs.Arrays.{made_at}
use Rattle.method.proofs.divide.divided_by.Goals as goal

pub returns : goal.returns
returns c = made_at _ _ (λ j. get_or c.args.counts.now j 0 / c.args.by) 0 c.from_fn.result (λ j y q called. search rules) 24 c.from_fn.ensures.items
