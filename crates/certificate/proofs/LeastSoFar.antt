-- The least ratio so far, one step on.
use Rattle.std.proofs.Common.{◌≡◌, ℕ, ◌+◌, ◌*◌, ◌<◌, Some, ap, subst, refl, add-one, arith}
use Rattle.cycle_theory.specs.Nets.{Counts, at}
use Rattle.cycle_theory.specs.Walk.{lesser, least_to, least_ratio}
use Rattle.certificate.specs.declared.ratio.Ratio.{Ratio}
use Rattle.cycle_theory.proofs.WalkingRounds.{is_least}
use Rattle.certificate.specs.Ratios.{ratio_of}
use Rattle.certificate.specs.Rounds.{Least}

pub least_to_none : (row rest : Counts) → least_to 0 row rest ≡ record { top = 1; bottom = 0 }
unfolding least_to
least_to_none row rest = refl

pub least_to_more : (j : ℕ) (row rest : Counts) → least_to (j + 1) row rest ≡ lesser (least_to j row rest) (at rest j) (at row j)
unfolding least_to
least_to_more j row rest = ap (λ (n : ℕ). least_to n row rest) (add-one j)

-- no more than bottom × rest is taken
pub least_takes : (row rest : Counts) (q : Ratio) → ratio_of (Some q) ≡ least_ratio row rest → Least row rest q
least_takes row rest q is j h =
    let l = (is_least row rest (subst (λ r. 0 < r.bottom) is q.some)).least j in
    let t = ap (λ r. r.top * at row j) is in
    let b = ap (λ r. r.bottom * at rest j) is in
    omega (arith, l, t, b)
