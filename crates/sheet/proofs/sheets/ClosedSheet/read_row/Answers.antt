use Rattle.std.proofs.Common.{◌≡◌, ℕ, List, ◌++◌, length, take, drop, ap, ◌∙◌, arith, rules}
use Rattle.sheet.proofs.Reading.{read_whole}
use Rattle.sheet.proofs.sheets.ClosedSheet.read_row.Goals as goal

pub returns : goal.returns
returns g c =
    let s = c.args.self.now in
    let n = c.get-n.result in
    let out = c.args.out.now in
    let row = c.in_ok-row.row.counts in
    let wide : length row ≡ 24 = search rules in
    let is : c.copy_from_slice.new.self ++ drop n out ≡ take s.steps.n row ++ drop s.steps.n out =
    ap (λ (x : List ℕ). x ++ drop n out) c.copy_from_slice.ensures.after
    ∙ ap (λ (m : ℕ). take m row ++ drop m out) c.get-n.ensures in
    read_whole s c.args.k out row c.in_ok-row.ensures _
    (omega (arith, wide, s.steps.few.1)) (omega (arith, c.if-out-n.false, c.get-n.ensures)) is
