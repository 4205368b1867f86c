-- The least ratio of a rest and a row: `least_ratio_is_least` says that it is least, is reached, and is in lowest terms.
use Rattle.std.proofs.Common.{rules, ◌≡◌, ℕ, zero, suc, ◌*◌, ◌/◌, ◌<◌, ◌≤◌, true, false, ltb, ◌⊎◌, [], ◌∷◌, length, sym, refl, ap, subst, inl, inr, not-suc-le-zero, mul-le-mul_right, eq-zero-or-pos, mul-le-mul_left, arith}
use native.Mathlib.Nat.{le_of_mul-le-mul_left, eq_of_mul-eq-mul_left}
use Rattle.std.proofs.lemmas.Bool.{ltb-true, ltb-false, lt-ltb, le-ltb, cases_Bool, cond-true, cond-false}
use Rattle.cycle_theory.specs.Nets.{Counts, at}
use Rattle.cycle_theory.specs.Flows.{Factor}
use Rattle.cycle_theory.specs.Method.{gcd}
use Rattle.cycle_theory.proofs.Rows.{split, at_past}
use Rattle.cycle_theory.proofs.Ratios.{by_last}
use Rattle.cycle_theory.proofs.Divisors.{divisor_divides, divisor_greatest, divisor_positive, one_of_product}
use Rattle.cycle_theory.specs.Walk.{Ratio, lesser, least_to, lowest, least_ratio}
use Rattle.cycle_theory.specs.Questions.{LeastRatio}

-- what is found among the first n steps: none is in use, or the ratio of a step that is least
abbrev Found : ℕ → (ℕ → ℕ) → (ℕ → ℕ) → Ratio → Type 0
Found n w y r =
    (((j : ℕ) → j < n → w j ≡ 0) × (r ≡ record { top = 1; bottom = 0 }))
    ⊎ ((j : ℕ) × (0 < w j) × (r ≡ record { top = y j; bottom = w j }) × ((i : ℕ) → i < n → y j * w i ≤ w j * y i))

over : (wj yj wn yn wi yi : ℕ) → 0 < wj → yn * wj < yj * wn → yj * wi ≤ wj * yi → yn * wi ≤ wn * yi
over wj yj wn yn wi yi pos h k =
    let a : (yn * wj) * wi ≤ (yj * wn) * wi = mul-le-mul_right wi (omega arith) in
    let b : wn * (yj * wi) ≤ wn * (wj * yi) = mul-le-mul_left wn k in
    le_of_mul-le-mul_left {k = wj} (omega arith) pos

found_more : (n : ℕ) (w y : ℕ → ℕ) (r : Ratio) → Found n w y r → Found (suc n) w y (lesser r (y n) (w n))
found_more n w y r (inl t) = subst (λ (q : Ratio). Found (suc n) w y (lesser q (y n) (w n))) (sym t.1) (go (eq-zero-or-pos (w n)))
  where
    go : (w n ≡ 0) ⊎ (0 < w n) → Found (suc n) w y (lesser (record { top = 1; bottom = 0 }) (y n) (w n))
    go (inl e) = inl (
      by_last (λ j. w j ≡ 0) n t.0 e,
      cond-false (ltb (y n * 0) (1 * w n)) (record { top = y n; bottom = w n }) (record { top = 1; bottom = 0 }) (le-ltb (y n * 0) (1 * w n) (omega arith)),
    )
    go (inr p) = inr (
      n,
      p,
      cond-true (ltb (y n * 0) (1 * w n)) (record { top = y n; bottom = w n }) (record { top = 1; bottom = 0 }) (lt-ltb (y n * 0) (1 * w n) (omega arith)),
      by_last (λ i. y n * w i ≤ w n * y i) n (λ i h. omega (arith, ap (λ (m : ℕ). y n * m) (t.0 i h))) (omega arith),
    )
found_more n w y r (inr t) = subst (λ (q : Ratio). Found (suc n) w y (lesser q (y n) (w n))) (sym t.2) (go (cases_Bool (ltb (y n * w t.0) (y t.0 * w n))))
  where
    go : (ltb (y n * w t.0) (y t.0 * w n) ≡ true) ⊎ (ltb (y n * w t.0) (y t.0 * w n) ≡ false) → Found (suc n) w y (lesser (record { top = y t.0; bottom = w t.0 }) (y n) (w n))
    go (inl e) =
        let h : y n * w t.0 < y t.0 * w n = ltb-true (y n * w t.0) (y t.0 * w n) e in
        inr (
          n,
          elim (eq-zero-or-pos (w n)) [ inl z ↦ omega (arith, ap (λ (m : ℕ). y t.0 * m) z) | inr p ↦ p ],
          cond-true (ltb (y n * w t.0) (y t.0 * w n)) (record { top = y n; bottom = w n }) (record { top = y t.0; bottom = w t.0 }) e,
          by_last (λ i. y n * w i ≤ w n * y i) n (λ i hi. over (w t.0) (y t.0) (w n) (y n) (w i) (y i) t.1 h (t.3 i hi)) (omega arith),
        )
    go (inr e) =
        let h : y t.0 * w n ≤ y n * w t.0 = ltb-false (y n * w t.0) (y t.0 * w n) e in
        inr (
          t.0,
          t.1,
          cond-false (ltb (y n * w t.0) (y t.0 * w n)) (record { top = y n; bottom = w n }) (record { top = y t.0; bottom = w t.0 }) e,
          by_last (λ i. y t.0 * w i ≤ w t.0 * y i) n t.3 (omega arith),
        )

found : (n : ℕ) (row rest : Counts) → Found n (at row) (at rest) (least_to n row rest)
unfolding least_to
found zero row rest = inl ((λ j h. absurd (not-suc-le-zero h)), refl)
found (suc n) row rest = search (rules, found n row rest, found_more)

-- a ratio with a bottom, in lowest terms
module _ (a b : ℕ) (pos : 0 < b) where
  divides_top : Factor (gcd a b) a
  divides_top = divisor_divides (a ∷ b ∷ []) 0

  divides_bottom : Factor (gcd a b) b
  divides_bottom = divisor_divides (a ∷ b ∷ []) 1

  pub gcd_pos : 0 < gcd a b
  gcd_pos = divisor_positive (a ∷ b ∷ []) (1, pos)

  pub top_times : gcd a b * (a / gcd a b) ≡ a
  top_times = grind (arith, divides_top)

  pub bottom_times : gcd a b * (b / gcd a b) ≡ b
  bottom_times = grind (arith, divides_bottom)

  pub bottom_pos : 0 < b / gcd a b
  bottom_pos = grind (arith, bottom_times)

  no_common : (d : ℕ) → Factor d (a / gcd a b) → Factor d (b / gcd a b) → d ≡ 1
  no_common d s p =
      let up : (j : ℕ) → Factor (gcd a b * d) (at (a ∷ b ∷ []) j) = elim [
        | zero ↦ (s.0, omega (arith, top_times, ap (λ (m : ℕ). gcd a b * m) s.1))
        | suc zero ↦ (p.0, omega (arith, bottom_times, ap (λ (m : ℕ). gcd a b * m) p.1))
        | suc (suc j) ↦ (0, omega arith)
      ] in
      let e : Factor (gcd a b * d) (gcd a b) = divisor_greatest (gcd a b * d) (a ∷ b ∷ []) up in
      one_of_product d e.0 (eq_of_mul-eq-mul_left (gcd a b) gcd_pos (d * e.0) 1 (omega (arith, e.1)))

-- no step is in use, or the ratio is least, reached and in lowest terms
pub least_ratio_is_least : (row rest : Counts) → (((j : ℕ) → at row j ≡ 0) × ((least_ratio row rest).bottom ≡ 0)) ⊎ LeastRatio row rest (least_ratio row rest)
least_ratio_is_least row rest = go (found (length row) row rest)
  where
    go : Found (length row) (at row) (at rest) (least_to (length row) row rest) → (((j : ℕ) → at row j ≡ 0) × ((least_ratio row rest).bottom ≡ 0)) ⊎ LeastRatio row rest (least_ratio row rest)
    go (inl t) = inl (
      λ j. elim (split (length row) j) [ inl h ↦ at_past row j h | inr h ↦ t.0 j h ],
      ap (λ (r : Ratio). (lowest r).bottom) t.1,
    )
    go (inr t) =
        let a : ℕ = at rest t.0 in
        let b : ℕ = at row t.0 in
        let all : (i : ℕ) → a * at row i ≤ b * at rest i = λ i. elim (split (length row) i) [
          | inl h ↦ omega (arith, ap (λ (m : ℕ). a * m) (at_past row i h))
          | inr h ↦ t.3 i h
        ] in
        inr (subst (λ (r : Ratio). LeastRatio row rest (lowest r)) (sym t.2) (record {
          positive = bottom_pos a b t.1;
          least = λ j. le_of_mul-le-mul_left {k = gcd a b}
              (omega (arith, all j, ap (λ (m : ℕ). m * at row j) (top_times a b t.1), ap (λ (m : ℕ). m * at rest j) (bottom_times a b t.1)))
              (gcd_pos a b t.1);
          reached = (
            t.0,
            t.1,
            eq_of_mul-eq-mul_left (gcd a b) (gcd_pos a b t.1) ((a / gcd a b) * b) ((b / gcd a b) * a)
                (omega (arith, ap (λ (m : ℕ). m * b) (top_times a b t.1), ap (λ (m : ℕ). m * a) (bottom_times a b t.1))),
          );
          lowest_terms = λ d m n e f. no_common a b t.1 d (m, e) (n, f);
        }))
