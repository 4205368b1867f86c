-- The tests of a walk, read step by step: whether a rest is zeros, whether a row is within it, whether all numbers are small.
use Rattle.std.proofs.Common.{◌≡◌, ℕ, zero, suc, ◌<◌, ◌≤◌, Bool, true, false, [], ◌∷◌, length, refl, inl, inr, le_of_suc-le-suc, not-suc-le-zero, arith}
use Rattle.std.proofs.lemmas.Bool.{and_parts, and_from, and_left, and_right, and_cases, both_ways}
use Rattle.cycle_theory.specs.Nets.{Counts, at, Within, Nonzero}
use Rattle.cycle_theory.specs.Method.{every, within}
use Rattle.cycle_theory.proofs.Rows.{at_past}
use Rattle.cycle_theory.proofs.Supports.{within_true}
use Rattle.cycle_theory.specs.Walk.{most, zeros, small, in_use}

-- a test of every count
pub every_from : (f : ℕ → Bool) (x : Counts) → ((j : ℕ) → j < length x → f (at x j) ≡ true) → every f x ≡ true
every_from f [] h = refl
every_from f (c ∷ x) h = and_from (f c) (every f x) (h 0 (omega arith)) (every_from f x (λ j l. h (suc j) (omega arith)))

pub every_at : (f : ℕ → Bool) (x : Counts) → every f x ≡ true → (j : ℕ) → j < length x → f (at x j) ≡ true
every_at f [] t j l = absurd (not-suc-le-zero l)
every_at f (c ∷ x) t zero l = (and_parts (f c) (every f x) t).0
every_at f (c ∷ x) t (suc j) l = every_at f x (and_parts (f c) (every f x) t).1 j (le_of_suc-le-suc l)

pub every_not : (f : ℕ → Bool) (x : Counts) (j : ℕ) → j < length x → f (at x j) ≡ false → every f x ≡ false
every_not f [] j l e = absurd (not-suc-le-zero l)
every_not f (c ∷ x) zero l e = and_left (f c) (every f x) e
every_not f (c ∷ x) (suc j) l e = and_right (f c) (every f x) (every_not f x j (le_of_suc-le-suc l) e)

-- a count other than 0 stands before the end
pub in_reach : (x : Counts) (j : ℕ) → 0 < at x j → j < length x
in_reach x j p = grind (arith, at_past)

-- zeros
pub zeros_from : (x : Counts) → ((j : ℕ) → j < length x → at x j ≡ 0) → zeros x ≡ true
zeros_from x h = grind (arith, every_from)

pub zeros_at : (x : Counts) → zeros x ≡ true → (j : ℕ) → at x j ≡ 0
zeros_at x t j = grind (arith, at_past, every_at)

pub zeros_not : (x : Counts) → Nonzero x → zeros x ≡ false
zeros_not x t = grind (arith, every_not, in_reach)

-- a row that is not within
pub within_not : (x y : Counts) (j : ℕ) → 0 < at x j → at y j ≡ 0 → within x y ≡ false
within_not x y j p z = grind (arith, within_true)

-- numbers within the limit
pub small_from : (x : Counts) → ((j : ℕ) → j < length x → at x j ≤ most) → small x ≡ true
small_from x h = grind (arith, every_from)

pub small_at : (x : Counts) → small x ≡ true → (j : ℕ) → at x j ≤ most
small_at x t j = grind (arith, at_past, every_at)

pub small_not : (x : Counts) (j : ℕ) → most < at x j → small x ≡ false
small_not x j h = grind (arith, every_not, in_reach)

-- how many steps are in use
pub in_use_le : (x y : Counts) → length x ≡ length y → Within x y → in_use x ≤ in_use y
in_use_le [] y l w = omega arith
in_use_le (a ∷ x) [] l w = absurd (omega arith)
in_use_le (zero ∷ x) (zero ∷ y) l w = in_use_le x y (omega arith) (λ j. w (suc j))
in_use_le (zero ∷ x) (suc b ∷ y) l w = omega (arith, in_use_le x y (omega arith) (λ j. w (suc j)))
in_use_le (suc a ∷ x) (zero ∷ y) l w = absurd (not-suc-le-zero (w 0 (omega arith)))
in_use_le (suc a ∷ x) (suc b ∷ y) l w = omega (arith, in_use_le x y (omega arith) (λ j. w (suc j)))

pub in_use_lt : (x y : Counts) → length x ≡ length y → Within x y → (j : ℕ) → 0 < at y j → at x j ≡ 0 → in_use x < in_use y
in_use_lt [] [] l w j p z = absurd (omega arith)
in_use_lt (zero ∷ x) (suc b ∷ y) l w zero p z = omega (arith, in_use_le x y (omega arith) (λ i. w (suc i)))
in_use_lt (zero ∷ x) (zero ∷ y) l w (suc j) p z = in_use_lt x y (omega arith) (λ i. w (suc i)) j p z
in_use_lt (zero ∷ x) (suc b ∷ y) l w (suc j) p z = omega (arith, in_use_lt x y (omega arith) (λ i. w (suc i)) j p z)
in_use_lt (suc a ∷ x) (zero ∷ y) l w (suc j) p z = absurd (not-suc-le-zero (w 0 (omega arith)))
in_use_lt (suc a ∷ x) (suc b ∷ y) l w (suc j) p z = omega (arith, in_use_lt x y (omega arith) (λ i. w (suc i)) j p z)
in_use_lt x y l w j p z = absurd (omega arith)

pub in_use_zeros : (x : Counts) → in_use x ≡ 0 → (j : ℕ) → at x j ≡ 0
in_use_zeros [] e j = refl
in_use_zeros (zero ∷ x) e zero = refl
in_use_zeros (zero ∷ x) e (suc j) = in_use_zeros x e j
in_use_zeros (suc c ∷ x) e j = absurd (omega arith)

pub in_use_long : (x : Counts) → in_use x ≤ length x
in_use_long [] = omega arith
in_use_long (zero ∷ x) = omega (arith, in_use_long x)
in_use_long (suc c ∷ x) = omega (arith, in_use_long x)

pub in_use_pos : (x : Counts) → zeros x ≡ false → 0 < in_use x
in_use_pos x f = grind (arith, zeros_from, in_use_zeros)

-- a test that fails somewhere
pub every_fails : (f : ℕ → Bool) (x : Counts) → every f x ≡ false → (j : ℕ) × (j < length x) × (f (at x j) ≡ false)
every_fails f [] e = absurd (both_ways true e refl)
every_fails f (c ∷ x) e = elim (and_cases (f c) (every f x) e) [
  | inl h ↦ (0, omega arith, h)
  | inr h ↦ let t : (j : ℕ) × (j < length x) × (f (at x j) ≡ false) = every_fails f x h in (suc t.0, (let l = t.1 in omega (arith, l)), t.2)
]
