use Rattle.std.proofs.Common.{◌≡◌, ◌≤◌, ℤ, nat_abs, sym, ◌∙◌, subst, w64, to_z, of_z}
use Rattle.std.proofs.lemmas.Int.{to_z-of_z}
use Rattle.method.proofs.Sums.{sum_bounded}
use Rattle.method.proofs.survey.reading_of.Goals as goal

pub invariant_of-result : goal.invariant_of-result
invariant_of-result g c =
    let e : to_z w64 (of_z w64 c.sum.result) ≡ c.sum.result = to_z-of_z w64 c.sum.result (record { sfits = c.sum.type_inv }) in
    record {
      within = c.requires;
      bounded = subst (λ (z : ℤ). nat_abs z ≤ 25165800000) (sym (e ∙ c.sum.ensures)) (sum_bounded c.args.place.now c.row_at.result.row.counts c.row_at.result.small);
    }
