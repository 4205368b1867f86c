-- The order of rows, as a test.
use Rattle.std.proofs.Common.{◌≡◌, true, ◌&&◌, eqb, ltb, Ordering, [], ◌∷◌, refl, inl, inr, arith}
use Rattle.std.proofs.lemmas.Bool.{lt-ltb, eq-eqb, or_left, or_right, and_from}
use Rattle.std.specs.Ordering.{nat_cmp, is_lt}
use Rattle.std.specs.Cmp.Lexicographic.{slice_cmp}
use Rattle.std.proofs.lemmas.Cmp.{same_from_slice_cmp}
use Rattle.std.proofs.lemmas.Bool.Decides.{nat_tests}
use Rattle.cycle_theory.specs.Nets.{Counts, Before}
use Rattle.cycle_theory.specs.Method.{before}

pub true_before : (x y : Counts) → Before x y → before x y ≡ true
true_before [] [] h = absurd h
true_before [] (b ∷ y) h = refl
true_before (a ∷ x) [] h = absurd h
true_before (a ∷ x) (b ∷ y) (inl p) = or_left (ltb a b) (eqb a b && before x y) (lt-ltb a b p)
true_before (a ∷ x) (b ∷ y) (inr p) = or_right (ltb a b) (eqb a b && before x y) (and_from (eqb a b) (before x y) (eq-eqb a b p.0) (true_before x y p.1))

-- the library's order of lists is that of rows
pub is_before : (x y : Counts) (r : Ordering) → r ≡ slice_cmp nat_cmp x y → is_lt r ≡ before x y
is_before = same_from_slice_cmp nat_cmp is_lt before refl (λ _ _. refl) (λ _ _. refl) (λ x y xs ys o h. grind (arith, nat_tests))
