use Rattle.std.proofs.Common.{List, ℕ, ◌++◌, length, drop, replicate, ap, ◌∙◌}
use Rattle.std.proofs.lemmas.List.{drop-replicate}
use Rattle.sheet.proofs.certify.widened.Goals as goal

pub returns : goal.returns
returns c =
    let n = length c.args.counts.now in
    ap (λ (x : List ℕ). x ++ drop n (replicate 24 0)) c.copy_from_slice.ensures.after ∙ ap (λ (x : List ℕ). c.args.counts.now ++ x) (drop-replicate n 24 0)
