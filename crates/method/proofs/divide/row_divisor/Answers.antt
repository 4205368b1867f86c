use Rattle.std.proofs.Common.{◌≡◌, reverse, ◌∙◌, rules}
use Rattle.std.specs.List.{fold}
use Rattle.std.proofs.iter.runs.Made.{chains}
use Rattle.cycle_theory.specs.Method.{gcd}
use Rattle.method.proofs.Dividing.{divisor_folded}
use Rattle.method.proofs.divide.row_divisor.Goals as goal

pub returns : goal.returns
returns c =
    let folded : c.fold.result ≡ fold (λ d n. gcd n d) 0 (reverse c.args.counts.now) = search (rules, chains) in
    folded ∙ divisor_folded c.args.counts.now
