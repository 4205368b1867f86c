use Rattle.std.proofs.Common.{◌≡◌, ℕ, max, List, length, ap, ◌∙◌, subst, rules}
use Rattle.cycle_theory.specs.Method.{divided}
use Rattle.method.specs.Fitting.{Fitted}
use Rattle.method.proofs.Dividing.{is_divided}
use Rattle.method.proofs.combine.combine_rows.Goals as goal

pub returns : goal.returns
returns c =
    let x = c.weighted_sum-counts.result in
    let w = c.divided_by.result in
    let lx : length x ≡ 24 = search rules in
    let lw : length w ≡ 24 = search rules in
    let is : w ≡ divided x = is_divided x w c.max-by.result lx lw (c.max-by.ensures ∙ ap (λ (d : ℕ). max d 1) c.row_divisor.ensures) c.divided_by.ensures in
    subst (λ (z : List ℕ). Fitted z c.fitted.result) (is ∙ ap divided c.weighted_sum-counts.ensures) c.fitted.ensures
