use Rattle.std.proofs.Common.{List, ℕ, ◌++◌, drop, ap, ◌∙◌, arith, length-take-le}
use Rattle.certificate.specs.Shares.{coefficient}
use Rattle.sheet.proofs.Writing.{all_written}
use Rattle.sheet.proofs.certify.write_coefficients.Goals as goal

pub returns : goal.returns
returns c =
    let n = c.args.rows in
    let was = c.args.list.now in
    let many = length-take-le n was c.requires in
    ap (λ (xs : List ℕ). xs ++ drop n was)
    (all_written (coefficient c.args.certificate.now) n c.loop-k.entry-items (c.loop-k.auto.entry-items ∙ many) (λ k h. c.loop-k.invariant k (omega (arith, c.loop-k-test.false, many, h))))
