-- Rows of counts: two rows are equal where they are equally long and equal at each step (equal_rows).
use Rattle.std.proofs.Common.{◌≡◌, ℕ, zero, suc, ◌<◌, ◌≤◌, ◌⊎◌, [], ◌∷◌, length, refl, ap, inl, inr, le_of_suc-le-suc, not-suc-le-zero, arith}
use Rattle.std.proofs.lemmas.List.{get_or_past}
use mathlib.Core.List.{List-discrete}
use native.Mathlib.Decide.{ℕ_discrete}
use Rattle.cycle_theory.specs.Nets.{Counts, at, Nonzero}
use Rattle.cycle_theory.specs.Method.{tabulate}

-- one of two numbers is at most the other, or above it
pub split : (m n : ℕ) → (m ≤ n) ⊎ (n < m)
split m n = grind arith

-- past its end a row counts 0
pub at_past : (x : Counts) (j : ℕ) → length x ≤ j → at x j ≡ 0
at_past x j h = get_or_past x j 0 h

pub length_tabulate : (n : ℕ) (f : ℕ → ℕ) → length (tabulate n f) ≡ n
length_tabulate zero f = refl
length_tabulate (suc n) f = ap suc (length_tabulate n (λ j. f (suc j)))

pub at_tabulate : (n : ℕ) (f : ℕ → ℕ) (j : ℕ) → j < n → at (tabulate n f) j ≡ f j
at_tabulate zero f j h = absurd (not-suc-le-zero h)
at_tabulate (suc n) f zero h = refl
at_tabulate (suc n) f (suc j) h = at_tabulate n (λ i. f (suc i)) j (le_of_suc-le-suc h)

-- where f is 0 past the end, no bound on the step is needed
pub at_tabulate_all : (n : ℕ) (f : ℕ → ℕ) → ((j : ℕ) → n ≤ j → f j ≡ 0) → (j : ℕ) → at (tabulate n f) j ≡ f j
at_tabulate_all n f z j = grind (arith, at_past, length_tabulate, at_tabulate)

-- rows are equal where they are equally long and equal at each step
pub equal_rows : (x y : Counts) → length x ≡ length y → ((j : ℕ) → at x j ≡ at y j) → x ≡ y
equal_rows [] [] l h = refl
equal_rows (a ∷ x) (b ∷ y) l h =
    let t : x ≡ y = equal_rows x y (omega arith) (λ j. h (suc j)) in
    let e : a ≡ b = h 0 in cc
equal_rows x y l h = absurd (omega arith)

-- two rows are equal or not
pub equal? : (x y : Counts) → Dec (x ≡ y)
equal? = List-discrete ℕ_discrete

-- a row is zeros, or some count is not 0
pub zeros? : (x : Counts) → ((j : ℕ) → at x j ≡ 0) ⊎ Nonzero x
zeros? [] = inl (λ j. refl)
zeros? (zero ∷ x) = elim (zeros? x) [ inl z ↦ inl (elim [ zero ↦ refl | suc j ↦ z j ]) | inr t ↦ inr (suc t.0, t.1) ]
zeros? (suc a ∷ x) = inr (0, omega arith)
