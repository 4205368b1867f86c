-- Euclid's algorithm: a row divided by the common divisor of its counts has none but 1 (divided_primitive).
use Rattle.std.proofs.Common.{rules, ◌≡◌, ℕ, zero, suc, ◌+◌, ◌-◌, ◌*◌, ◌/◌, ◌%◌, ◌<◌, ◌≤◌, [], ◌∷◌, length, sym, ap, ◌∙◌, inl, inr, not-suc-le-zero, mod-lt, eq-zero-or-pos, arith}
use native.Mathlib.Nat.{eq_of_mul-eq-mul_left, mul-sub, div-add-mod, mul-div_cancel_left, zero-div}
use Rattle.cycle_theory.specs.Nets.{Counts, at, Nonzero}
use Rattle.cycle_theory.specs.Method.{gcd_to, gcd, divisor, divided}
use Rattle.cycle_theory.specs.Flows.{Factor, Primitive}
use Rattle.cycle_theory.proofs.Rows.{at_past, length_tabulate, at_tabulate_all}

-- what divides b and the remainder of a by b divides a
div_up : (g a b : ℕ) → Factor g b → Factor g (a % b) → Factor g a
div_up g a b d e =
    let k : b * (a / b) ≡ g * d.0 * (a / b) = ap (λ (m : ℕ). m * (a / b)) d.1 in
    (d.0 * (a / b) + e.0, omega (arith, div-add-mod a b, k, e.1))

-- and what divides a and b divides the remainder
div_down : (g a b : ℕ) → Factor g a → Factor g b → Factor g (a % b)
div_down g a b d e =
    let k : b * (a / b) ≡ g * e.0 * (a / b) = ap (λ (m : ℕ). m * (a / b)) e.1 in
    (d.0 - e.0 * (a / b), omega (arith, div-add-mod a b, k, d.1, mul-sub g d.0 (e.0 * (a / b))))

div_zero : (g : ℕ) → Factor g 0
div_zero g = (0, omega arith)

div_self : (g : ℕ) → Factor g g
div_self g = (1, omega arith)

-- what Euclid's algorithm finds divides both numbers
gcd_divides : (k a b : ℕ) → b ≤ k → Factor (gcd_to k a b) a × Factor (gcd_to k a b) b
gcd_divides zero a zero h = (div_self a, div_zero a)
gcd_divides zero a (suc b) h = absurd (not-suc-le-zero h)
gcd_divides (suc k) a zero h = (div_self a, div_zero a)
gcd_divides (suc k) a (suc b) h = search (rules, gcd_divides k (suc b) (a % suc b) (omega (arith, mod-lt a {m = suc b} (omega arith))), div_up)

-- and whatever divides both divides it
gcd_greatest : (d k a b : ℕ) → Factor d a → Factor d b → Factor d (gcd_to k a b)
gcd_greatest d zero a b da db = da
gcd_greatest d (suc k) a zero da db = da
gcd_greatest d (suc k) a (suc b) da db = gcd_greatest d k (suc b) (a % suc b) db (div_down d a (suc b) da db)

div_trans : (a b c : ℕ) → Factor a b → Factor b c → Factor a c
div_trans a b c d e = (d.0 * e.0, omega (arith, e.1, ap (λ (m : ℕ). m * e.0) d.1))

-- the same of all counts of a row
pub divisor_divides : (x : Counts) (j : ℕ) → Factor (divisor x) (at x j)
divisor_divides [] j = div_zero 0
divisor_divides (a ∷ x) zero = (gcd_divides (divisor x) a (divisor x) (omega arith)).0
divisor_divides (a ∷ x) (suc j) = div_trans (gcd a (divisor x)) (divisor x) (at x j) (gcd_divides (divisor x) a (divisor x) (omega arith)).1 (divisor_divides x j)

pub divisor_greatest : (d : ℕ) (x : Counts) → ((j : ℕ) → Factor d (at x j)) → Factor d (divisor x)
divisor_greatest d [] h = div_zero d
divisor_greatest d (a ∷ x) h = gcd_greatest d (divisor x) a (divisor x) (h 0) (divisor_greatest d x (λ j. h (suc j)))

pub one_of_product : (d q : ℕ) → d * q ≡ 1 → d ≡ 1
one_of_product (suc d) (suc q) h = omega arith
one_of_product d q h = absurd (omega arith)

module _ (x : Counts) (nx : Nonzero x) where
  -- of a row with a count that is not 0 the divisor is not 0, so that it can be divided by
  pub divisor_positive : 0 < divisor x
  divisor_positive = elim (eq-zero-or-pos (divisor x)) [
    | inl e ↦
        let d : Factor (divisor x) (at x nx.0) = divisor_divides x nx.0 in
        omega (arith, d.1, nx.1, ap (λ (m : ℕ). m * d.0) e)
    | inr h ↦ h
  ]

  -- the divided row, times the divisor, is the row
  pub divided_at : (j : ℕ) → divisor x * at (divided x) j ≡ at x j
  divided_at j =
      let d : Factor (divisor x) (at x j) = divisor_divides x j in
      let is : at (divided x) j ≡ at x j / divisor x = at_tabulate_all (length x) (λ i. at x i / divisor x) (λ i h. ap (λ (m : ℕ). m / divisor x) (at_past x i h) ∙ zero-div (divisor x)) j in
      let q : at x j / divisor x ≡ d.0 = ap (λ (m : ℕ). m / divisor x) d.1 ∙ mul-div_cancel_left d.0 {n = divisor x} divisor_positive in
      ap (λ (m : ℕ). divisor x * m) (is ∙ q) ∙ sym d.1

  pub divided_long : length (divided x) ≡ length x
  divided_long = grind (arith, length_tabulate)

  -- a common divisor of the divided row, times the divisor, is a common divisor of the row, so it is 1
  pub divided_primitive : Primitive (divided x)
  divided_primitive d h =
      let e : Factor (divisor x * d) (divisor x) = divisor_greatest (divisor x * d) x (λ j. ((h j).0, omega (arith, divided_at j, ap (λ (m : ℕ). divisor x * m) (h j).1))) in
      one_of_product d e.0 (eq_of_mul-eq-mul_left (divisor x) divisor_positive (d * e.0) 1 (omega (arith, e.1)))
