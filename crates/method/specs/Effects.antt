-- Effects of a place, and which of them are out of range.
--
--   some f l            f holds of some element of l
--   outside e           the effect e is more than 1,000 either way
--   first_outside i p   the first step whose effect is outside, where the first effect of p is that of step i
use Rattle.std.specs.Prelude.{ℕ, suc, Bool, false, cond, ◌||◌, List, [], ◌∷◌, ℤ, pos, negsuc, nat_lt}

abbrev pub some : {A : Type 0} → (A → Bool) → List A → Bool
some f [] = false
some f (x ∷ l) = f x || some f l

abbrev pub outside : ℤ → Bool
outside (pos e) = nat_lt 1000 e
outside (negsuc e) = nat_lt 1000 (suc e)

abbrev pub first_outside : ℕ → List ℤ → ℕ
first_outside i [] = 0
first_outside i (e ∷ p) = cond (outside e) i (first_outside (suc i) p)
