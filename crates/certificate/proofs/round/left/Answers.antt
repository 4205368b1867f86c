use Rattle.std.proofs.Common.{◌≡◌, ◌*◌, length, sym, ap, subst, arith, rules}
use Rattle.certificate.specs.Rounds.{Left}
use Rattle.certificate.proofs.Leaving.{left_is, left_small, left_large}
use Rattle.certificate.proofs.round.left.Goals as goal

pub returns-in_err-count : goal.returns-in_err-count
returns-in_err-count c =
    let kept = ap (λ n. c.args.ratio.now.bottom * n) (c.loop-j.invariant.kept c.loop-j.j (omega arith)) in
    subst (Left c.args.row.now.counts c.args.rest.now.counts c.args.ratio.now) (sym c.from_residual.ensures)
    (left_large c.args.ratio.now.bottom c.args.rest.now.counts c.args.ratio.now.top c.args.row.now.counts c.loop-j.j (omega (arith, kept, c.in_err-count.ensures)))

pub returns : goal.returns
returns c =
    let wide : length c.args.rest.now.counts ≡ 24 = search rules in
    let is = left_is c.loop-j.count-items c.args.ratio.now.bottom c.args.rest.now.counts c.args.ratio.now.top c.args.row.now.counts (omega arith)
    (λ k h. c.loop-j.invariant.done k (omega arith)) in
    (left_small _ _ _ _ _ is (λ k h. c.loop-j.invariant.low k (omega arith)), is)
