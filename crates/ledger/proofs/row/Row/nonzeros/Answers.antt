use Rattle.std.proofs.Common.{◌≡◌, ◌<◌, not, eqb, length, ap, ◌∙◌, arith, take_all, rules, eq-eqb, ne_eqb}
use Rattle.std.proofs.lemmas.List.Sums.{count_by_more_yes, count_by_more_no}
use Rattle.ledger.specs.Rows.{nonzeros}
use Rattle.ledger.proofs.row.Row.nonzeros.Goals as goal
use Rattle.ledger.proofs.row.Row.nonzeros.Goals.{then-count-ne0, else-count-ne0}

pub loop-count-preserved : goal.loop-count-preserved
loop-count-preserved c =
    let row = c.args.self.now.counts in
    let i = c.loop-count.count-index in
    let inside : i < length row = search rules in
    elim c.if-count-ne0.branch [
      | then-count-ne0 w ↦
          (let m = count_by_more_yes (λ n. not (eqb n 0)) row i 0 inside (ap not (ne_eqb _ _ w.if-count-ne0.true)) in
          (omega (arith, m, w.n-is), omega (arith, w.n-is)))
      | else-count-ne0 w ↦
          (let m = count_by_more_no (λ n. not (eqb n 0)) row i 0 inside (ap not (eq-eqb _ _ w.if-count-ne0.false)) in
          (omega (arith, m, w.n-is), omega (arith, w.n-is)))
    ]

pub returns : goal.returns
returns c =
    let row = c.args.self.now.counts in
    let wide : length row ≡ 24 = search rules in
    record {
      value = c.loop-count.invariant.0 ∙ ap nonzeros (take_all c.loop-count.count-index row (omega arith));
      wide = wide;
      bound = omega arith;
    }
