-- The steps in use: the test `within` decides Within (within?), and a row that leaves a step out uses fewer (fewer_steps).
use Rattle.std.proofs.Common.{◌≡◌, ℕ, zero, suc, ◌+◌, ◌<◌, ◌≤◌, true, ◌⊎◌, [], ◌∷◌, refl, subst, inl, inr, le_of_suc-le-suc, not-suc-le-zero, eq-or-lt_of_le, arith}
use Rattle.std.proofs.lemmas.Bool.{cases_Bool, and_parts, and_from, both_ways}
use Rattle.cycle_theory.specs.Nets.{Counts, Within}
use Rattle.cycle_theory.specs.Method.{covered, within}

true_covered : (a b : ℕ) → (0 < a → 0 < b) → covered a b ≡ true
true_covered zero b h = refl
true_covered (suc a) zero h = absurd (not-suc-le-zero (h (omega arith)))
true_covered (suc a) (suc b) h = refl

-- the test `within` says Within, and is true where it holds
pub within_true : (x y : Counts) → within x y ≡ true → Within x y
within_true [] y t j h = absurd (not-suc-le-zero h)
within_true (a ∷ x) [] t zero h = grind arith
within_true (a ∷ x) [] t (suc j) h = within_true x [] (and_parts (covered a 0) (within x []) t).1 j h
within_true (a ∷ x) (b ∷ y) t zero h = grind arith
within_true (a ∷ x) (b ∷ y) t (suc j) h = within_true x y (and_parts (covered a b) (within x y) t).1 j h

pub true_within : (x y : Counts) → Within x y → within x y ≡ true
true_within [] y h = refl
true_within (a ∷ x) [] h = and_from (covered a 0) (within x []) (true_covered a 0 (h 0)) (true_within x [] (λ j. h (suc j)))
true_within (a ∷ x) (b ∷ y) h = and_from (covered a b) (within x y) (true_covered a b (h 0)) (true_within x y (λ j. h (suc j)))

-- one row is within another or not
pub within? : (x y : Counts) → Within x y ⊎ (Within x y → ⊥)
within? x y = elim (cases_Bool (within x y)) [
  | inl t ↦ inl (within_true x y t)
  | inr f ↦ inr (λ b. both_ways (within x y) f (true_within x y b))
]

-- 1 for a count that is not 0
abbrev pub one_if_used : ℕ → ℕ
one_if_used zero = 0
one_if_used (suc n) = 1

-- how many of the first n counts are not 0
abbrev pub steps_in_use : ℕ → (ℕ → ℕ) → ℕ
steps_in_use zero x = 0
steps_in_use (suc n) x = one_if_used (x n) + steps_in_use n x

one_if_used_le : (a b : ℕ) → (0 < a → 0 < b) → one_if_used a ≤ one_if_used b
one_if_used_le zero b h = omega arith
one_if_used_le (suc a) zero h = absurd (omega (arith, h (omega arith)))
one_if_used_le (suc a) (suc b) h = omega arith

one_if_used_lt : (a b : ℕ) → 0 < b → a ≡ 0 → one_if_used a < one_if_used b
one_if_used_lt zero zero h e = absurd (omega arith)
one_if_used_lt zero (suc b) h e = omega arith
one_if_used_lt (suc a) b h e = absurd (omega arith)

-- a row within another uses no more steps
pub no_more_steps : (n : ℕ) (y x : ℕ → ℕ) → ((j : ℕ) → 0 < y j → 0 < x j) → steps_in_use n y ≤ steps_in_use n x
no_more_steps zero y x h = omega arith
no_more_steps (suc n) y x h = omega (arith, no_more_steps n y x h, one_if_used_le (y n) (x n) (h n))

-- and fewer, where it leaves a step of the other out
pub fewer_steps : (n : ℕ) (y x : ℕ → ℕ) → ((j : ℕ) → 0 < y j → 0 < x j) → (j : ℕ) → j < n → 0 < x j → y j ≡ 0 → steps_in_use n y < steps_in_use n x
fewer_steps zero y x h j lt pos e = absurd (not-suc-le-zero lt)
fewer_steps (suc n) y x h j lt pos e = elim (eq-or-lt_of_le (le_of_suc-le-suc lt)) [
  | inl eq ↦ omega (arith, no_more_steps n y x h, one_if_used_lt (y n) (x n) (subst (λ (k : ℕ). 0 < x k) eq pos) (subst (λ (k : ℕ). y k ≡ 0) eq e))
  | inr l ↦ omega (arith, fewer_steps n y x h j l pos e, one_if_used_le (y n) (x n) (h n))
]
