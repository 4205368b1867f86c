-- Euclid's turns: each keeps the greatest common divisor, which is no more than either number.
use Rattle.std.proofs.Common.{◌≡◌, ℕ, zero, suc, ◌*◌, ◌/◌, ◌%◌, ◌<◌, ◌≤◌, refl, ap, subst, not-suc-le-zero, mod-lt, arith}
use Rattle.std.proofs.Math.Nat.{le-mul_of_pos_right}
use Rattle.cycle_theory.specs.Method.{gcd_to, gcd}
use Rattle.cycle_theory.proofs.LeastRatios.{bottom_times, bottom_pos}

-- any bound on the turns that is not too low gives the same
gcd_to_enough : (k l a b : ℕ) → b ≤ k → b ≤ l → gcd_to k a b ≡ gcd_to l a b
gcd_to_enough zero zero a b h i = refl
gcd_to_enough zero (suc l) a zero h i = refl
gcd_to_enough zero (suc l) a (suc b) h i = absurd (not-suc-le-zero h)
gcd_to_enough (suc k) zero a zero h i = refl
gcd_to_enough (suc k) zero a (suc b) h i = absurd (not-suc-le-zero i)
gcd_to_enough (suc k) (suc l) a zero h i = refl
gcd_to_enough (suc k) (suc l) a (suc b) h i =
    let m = mod-lt a {m = suc b} (omega arith) in
    gcd_to_enough k l (suc b) (a % suc b) (omega (arith, m)) (omega (arith, m))

pub gcd_turn : (a b : ℕ) → (b ≡ 0 → ⊥) → gcd b (a % b) ≡ gcd a b
gcd_turn a zero ne = absurd (ne refl)
gcd_turn a (suc b) ne = let m = mod-lt a {m = suc b} (omega arith) in gcd_to_enough (a % suc b) b (suc b) (a % suc b) (omega arith) (omega (arith, m))

pub gcd_end : (a b : ℕ) → b ≡ 0 → gcd a b ≡ a
gcd_end a b e = ap (λ (m : ℕ). gcd a m) e

pub gcd_within : (a b : ℕ) → 0 < b → gcd a b ≤ b
gcd_within a b some =
    let times : gcd a b * (b / gcd a b) ≡ b = bottom_times a b some in
    subst (λ m. gcd a b ≤ m) times (le-mul_of_pos_right (gcd a b) (bottom_pos a b some))
