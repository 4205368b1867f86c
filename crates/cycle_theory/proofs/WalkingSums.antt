-- Sums of coefficient × row, when the coefficients are multiplied and one is raised.
use Rattle.std.proofs.Common.{◌≡◌, ℕ, zero, suc, ◌+◌, ◌*◌, ◌<◌, ◌≤◌, List, [], ◌∷◌, map, length, get_or, replicate, refl, ap, le_of_suc-le-suc, not-suc-le-zero, arith}
use Rattle.std.proofs.lemmas.List.{length-map, get_or-map}
use Rattle.cycle_theory.specs.Nets.{Counts, at}
use Rattle.cycle_theory.specs.Theorems.{mixed}
use Rattle.cycle_theory.specs.Walk.{add_at, in_use}
use Rattle.cycle_theory.proofs.Rows.{at_past}
use Rattle.cycle_theory.proofs.WalkingTests.{in_use_le}

pub mixed_times : (p : ℕ) (cs : List ℕ) (rows : List Counts) (j : ℕ) → mixed (map (λ c. p * c) cs) rows j ≡ p * mixed cs rows j
mixed_times p [] rows j = omega arith
mixed_times p (c ∷ cs) [] j = omega arith
mixed_times p (c ∷ cs) (row ∷ rows) j = omega (arith, mixed_times p cs rows j)

pub mixed_add : (k s : ℕ) (cs : List ℕ) (rows : List Counts) (j : ℕ) → length cs ≡ length rows → k < length rows → mixed (add_at k s cs) rows j ≡ mixed cs rows j + s * at (get_or rows k []) j
mixed_add zero s (c ∷ cs) (row ∷ rows) j l h = omega arith
mixed_add (suc k) s (c ∷ cs) (row ∷ rows) j l h = omega (arith, mixed_add k s cs rows j (omega arith) (le_of_suc-le-suc h))
mixed_add k s cs rows j l h = absurd (omega arith)

pub mixed_none : (m : ℕ) (rows : List Counts) (j : ℕ) → mixed (replicate m 0) rows j ≡ 0
mixed_none zero rows j = refl
mixed_none (suc m) [] j = refl
mixed_none (suc m) (row ∷ rows) j = omega (arith, mixed_none m rows j)

pub length_add_at : (k s : ℕ) (cs : List ℕ) → length (add_at k s cs) ≡ length cs
length_add_at k s [] = refl
length_add_at zero s (c ∷ cs) = refl
length_add_at (suc k) s (c ∷ cs) = ap suc (length_add_at k s cs)

pub at_add_at_same : (k s : ℕ) (cs : List ℕ) → k < length cs → at (add_at k s cs) k ≡ at cs k + s
at_add_at_same k s [] h = absurd (not-suc-le-zero h)
at_add_at_same zero s (c ∷ cs) h = refl
at_add_at_same (suc k) s (c ∷ cs) h = at_add_at_same k s cs (le_of_suc-le-suc h)

pub at_add_at_other : (k s : ℕ) (cs : List ℕ) (i : ℕ) → (i ≡ k → ⊥) → at (add_at k s cs) i ≡ at cs i
at_add_at_other k s [] i ne = refl
at_add_at_other zero s (c ∷ cs) zero ne = absurd (ne refl)
at_add_at_other zero s (c ∷ cs) (suc i) ne = refl
at_add_at_other (suc k) s (c ∷ cs) zero ne = refl
at_add_at_other (suc k) s (c ∷ cs) (suc i) ne = at_add_at_other k s cs i (λ e. ne (ap suc e))

pub at_times : (p : ℕ) (cs : List ℕ) (k : ℕ) → at (map (λ c. p * c) cs) k ≡ p * at cs k
at_times p cs k = grind (arith, length-map, at_past, get_or-map)

-- how many coefficients are not 0
pub in_use_times : (p : ℕ) (cs : List ℕ) → in_use (map (λ c. p * c) cs) ≤ in_use cs
in_use_times p cs = grind (arith, in_use_le, length-map, at_times)

pub in_use_add_at : (k s : ℕ) (cs : List ℕ) → in_use (add_at k s cs) ≤ suc (in_use cs)
in_use_add_at k s [] = omega arith
in_use_add_at zero s (c ∷ cs) = grind arith
in_use_add_at (suc k) s (zero ∷ cs) = in_use_add_at k s cs
in_use_add_at (suc k) s (suc c ∷ cs) = omega (arith, in_use_add_at k s cs)

pub in_use_none : (m : ℕ) → in_use (replicate m 0) ≡ 0
in_use_none zero = refl
in_use_none (suc m) = in_use_none m
