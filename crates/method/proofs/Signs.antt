-- What the signed tests and values of the code say of a sum.
use Rattle.std.proofs.Common.{◌≡◌, ◌<◌, ◌≤◌, List, ℤ, pos, negsuc, nat_abs, ◌<ℤ◌, sym, ap, ◌∙◌, subst, arith, w64, SFits, to_z, of_z}
use Rattle.std.proofs.lemmas.Int.{ints, to_z-of_z}
use Rattle.cycle_theory.specs.Nets.{Counts, sum}
use Rattle.cycle_theory.specs.Flows.{flow, gains, losses}
use Rattle.cycle_theory.proofs.Integers.{sum_said, sub_parts}

-- the place gains where the sum is above 0, and loses where it is below
pub gains_sum : (p : List ℤ) (x : Counts) → losses (flow p) x < gains (flow p) x → pos 0 <ℤ sum p x
gains_sum p x h = subst (λ (z : ℤ). pos 0 <ℤ z) (sym (sum_said p x)) (omega (arith, ints, sub_parts (gains (flow p) x) (losses (flow p) x)))

pub loses_sum : (p : List ℤ) (x : Counts) → gains (flow p) x < losses (flow p) x → sum p x <ℤ pos 0
loses_sum p x h = subst (λ (z : ℤ). z <ℤ pos 0) (sym (sum_said p x)) (omega (arith, ints, sub_parts (gains (flow p) x) (losses (flow p) x)))

-- a sum as the code stores it, and its tests
module _ (z : ℤ) (bounded : nat_abs z ≤ 25165800000) where
  pub stored : to_z w64 (of_z w64 z) ≡ z
  stored = to_z-of_z w64 z (fits z bounded)
    where
      fits : (x : ℤ) → nat_abs x ≤ 25165800000 → SFits w64 x
      fits (pos n) h = record { sfits = omega (arith, ints) }
      fits (negsuc n) h = record { sfits = omega (arith, ints) }

  pub balanced : of_z w64 z ≡ 0 → z ≡ pos 0
  balanced e = sym stored ∙ ap (to_z w64) e

  pub unbalanced : (of_z w64 z ≡ 0 → ⊥) → z ≡ pos 0 → ⊥
  unbalanced ne e = ne (ap (of_z w64) e)
