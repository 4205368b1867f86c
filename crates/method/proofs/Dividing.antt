-- The divisor of a row, r × u + s × v, and a row in lowest terms.
use Rattle.std.proofs.Common.{◌≡◌, ℕ, ◌+◌, ◌*◌, ◌/◌, ◌<◌, max, [], ◌∷◌, length, reverse, sym, refl, ap, ◌∙◌, ⊎_elim, eq-zero-or-pos, arith, ext_get_or}
use native.Mathlib.Nat.{zero-div}
use Rattle.std.specs.List.{fold}
use Rattle.std.proofs.lemmas.List.{reverse-append}
use Rattle.std.proofs.lemmas.List.Sums.{fold-append}
use Rattle.cycle_theory.specs.Nets.{Counts, at}
use Rattle.cycle_theory.specs.Flows.{Factor}
use Rattle.cycle_theory.specs.Method.{gcd, divisor, divided, weighted}
use Rattle.cycle_theory.proofs.Rows.{length_tabulate, at_tabulate}
use Rattle.cycle_theory.proofs.Divisors.{divisor_divides}

-- a row's counts, the last one first
pub divisor_folded : (x : Counts) → fold (λ d n. gcd n d) 0 (reverse x) ≡ divisor x
divisor_folded [] = refl
divisor_folded (c ∷ x) = ap (fold (λ d n. gcd n d) 0) (reverse-append (c ∷ []) x) ∙ fold-append (λ d n. gcd n d) 0 (reverse x) (c ∷ []) ∙ ap (gcd c) (divisor_folded x)

pub is_weighted : (r s : ℕ) (u v w : Counts) → length u ≡ 24 → length w ≡ 24 → ((j : ℕ) → j < 24 → at w j ≡ r * at u j + s * at v j) → w ≡ weighted r u s v
is_weighted r s u v w lu lw each =
    ext_get_or 0 w (weighted r u s v) (lw ∙ sym (length_tabulate (length u) (λ j. r * at u j + s * at v j) ∙ lu))
    (λ j h. each j (omega (arith, lw, h)) ∙ sym (at_tabulate (length u) (λ i. r * at u i + s * at v i) j (omega (arith, lu, lw, h))))

-- over the divisor, or over 1 where that is 0
over_divisor : (x : Counts) (j : ℕ) → at x j / max (divisor x) 1 ≡ at x j / divisor x
over_divisor x j = ⊎_elim
    (λ (e : divisor x ≡ 0).
    let f : Factor (divisor x) (at x j) = divisor_divides x j in
    let g : divisor x * f.0 ≡ 0 * f.0 = ap (λ (m : ℕ). m * f.0) e in
    let z : at x j ≡ 0 = let i = f.1 in omega (arith, i, g) in
    ap (λ (m : ℕ). m / max (divisor x) 1) z ∙ zero-div (max (divisor x) 1) ∙ sym (ap (λ (m : ℕ). m / divisor x) z ∙ zero-div (divisor x)))
    (λ (h : 0 < divisor x). let e : max (divisor x) 1 ≡ divisor x = omega (arith, h) in ap (λ (m : ℕ). at x j / m) e)
    (eq-zero-or-pos (divisor x))

pub is_divided : (x w : Counts) (by : ℕ) → length x ≡ 24 → length w ≡ 24 → by ≡ max (divisor x) 1 → ((j : ℕ) → j < 24 → at w j ≡ at x j / by) → w ≡ divided x
is_divided x w by lx lw is each =
    ext_get_or 0 w (divided x) (lw ∙ sym (length_tabulate (length x) (λ j. at x j / divisor x) ∙ lx))
    (λ j h. each j (omega (arith, lw, h)) ∙ ap (λ (m : ℕ). at x j / m) is ∙ over_divisor x j
    ∙ sym (at_tabulate (length x) (λ i. at x i / divisor x) j (omega (arith, lx, lw, h))))
