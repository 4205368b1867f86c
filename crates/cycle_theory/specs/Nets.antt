-- Nets, cycles and minimal cycles.
--
-- Counts               a count list: how often each step is taken
-- at x j               the count of step j, with steps from 0, and 0 past the end
-- Mem a list           a stands in the list
-- Place                the effects of a place: how many tokens one run of each step adds to it, negative where it takes them
-- sum p x              the total of effect × count over all steps
-- Cycle n places x     x has n counts, and every place has the sum 0 on it
-- Nonzero x            some count of x is not 0
-- Within x y           every step that x uses, y uses; a step is in use where its count is not 0
-- UsesLess x y         x uses only some, and not all, of the steps that y uses
-- Divides d x          d is a common divisor of the counts of x
-- Minimal n places x   x is a minimal cycle
-- Before x y           at the first step where the two rows differ, x has the smaller count
-- Ascending rows       each row stands before all that follow it, so that none stands twice
use Rattle.std.specs.Prelude.{◌≡◌, ℕ, ◌*◌, ◌<◌, ◌≤◌, ◌⊎◌, List, [], ◌∷◌, length, ℤ, pos, ◌+ℤ◌, ◌*ℤ◌, slice_index}

abbrev pub Counts : Type 0
Counts = List ℕ

abbrev pub at : Counts → ℕ → ℕ
at x j = slice_index x j

abbrev pub Mem : {A : Type 0} → A → List A → Type 0
Mem a [] = ⊥
Mem a (b ∷ list) = (a ≡ b) ⊎ Mem a list

abbrev pub Place : Type 0
Place = List ℤ

abbrev pub sum : Place → Counts → ℤ
sum [] x = pos 0
sum (e ∷ p) [] = pos 0
sum (e ∷ p) (c ∷ x) = (e *ℤ pos c) +ℤ sum p x

pub record Cycle (n : ℕ) (places : List Place) (x : Counts) : Type 0 where
  pub long : length x ≡ n
  pub stays : (p : Place) → Mem p places → sum p x ≡ pos 0

abbrev pub Nonzero : Counts → Type 0
Nonzero x = (j : ℕ) × (0 < at x j)

abbrev pub Within : Counts → Counts → Type 0
Within x y = (j : ℕ) → 0 < at x j → 0 < at y j

abbrev pub UsesLess : Counts → Counts → Type 0
UsesLess x y = Within x y × (Within y x → ⊥)

abbrev pub Divides : ℕ → Counts → Type 0
Divides d x = (j : ℕ) → (q : ℕ) × (at x j ≡ d * q)

-- A cycle other than the zeros, whose counts have no common divisor above 1, and of whose steps in use
-- no cycle other than the zeros uses only some, and not all.
pub record Minimal (n : ℕ) (places : List Place) (x : Counts) : Type 0 where
  pub cycle : Cycle n places x
  pub nonzero : Nonzero x
  pub reduced : (d : ℕ) → Divides d x → d ≤ 1
  pub least : (y : Counts) → Cycle n places y → Nonzero y → UsesLess y x → ⊥

-- Of two lists one of which begins with the other, the shorter comes first. The rows of one net are equally long.
abbrev pub Before : Counts → Counts → Type 0
Before [] [] = ⊥
Before [] (b ∷ y) = Unit {0}
Before (a ∷ x) [] = ⊥
Before (a ∷ x) (b ∷ y) = (a < b) ⊎ ((a ≡ b) × Before x y)

abbrev pub Ascending : List Counts → Type 0
Ascending [] = Unit {0}
Ascending (x ∷ rows) = ((y : Counts) → Mem y rows → Before x y) × Ascending rows
