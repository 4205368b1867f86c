-- The first effect out of range, by its position.
use Rattle.std.proofs.Common.{◌≡◌, ℕ, zero, suc, ◌+◌, ◌<◌, ◌≤◌, true, false, cond, List, [], ◌∷◌, length, get_or, ℤ, pos, Some, None, Option, option_map, position, MatchOption, refl, ap, sym, subst, ◌∙◌, ⊎_elim, le_of_suc-le-suc, not-suc-le-zero, arith}
use Rattle.std.specs.List.{position_or_len}
use Rattle.std.proofs.lemmas.Bool.{or_parts, cases_Bool, cases_lt, lt-ltb, le-ltb}
use Rattle.method.specs.Effects.{outside, some, first_outside}

some_first : (p : List ℤ) (k : ℕ) → position_or_len outside p < length p → (some outside p ≡ true) × (position_or_len outside p + k ≡ first_outside k p)
some_first [] k l = absurd (not-suc-le-zero l)
some_first (e ∷ p) k l = ⊎_elim
    (λ (t : outside e ≡ true). rw t (refl, omega arith))
    (λ (f : outside e ≡ false). let m = rw f at l in let r = some_first p (suc k) (omega (arith, m)) in rw f (r.0, (let h = r.1 in omega (arith, h))))
    (cases_Bool (outside e))

none_outside : (p : List ℤ) → length p ≤ position_or_len outside p → some outside p ≡ false
none_outside [] l = refl
none_outside (e ∷ p) l = ⊎_elim
    (λ (t : outside e ≡ true). absurd (not-suc-le-zero (rw t at l)))
    (λ (f : outside e ≡ false). let m = rw f at l in rw f (none_outside p (omega (arith, m))))
    (cases_Bool (outside e))

abbrev Told : List ℤ → Option ℕ → Type 0
Told p o = MatchOption o (some outside p ≡ false) (λ step. (some outside p ≡ true) × (step ≡ first_outside 1 p))

-- the step is told from 1
pub told : (p : List ℤ) (r o : Option ℕ) → r ≡ position outside p → o ≡ option_map (λ i. i + 1) r → Told p o
told p r o is next = ⊎_elim
    (λ (l : position_or_len outside p < length p).
    let at : o ≡ Some (position_or_len outside p + 1) = next ∙ ap (option_map (λ i. i + 1)) (is ∙ ap (λ b. cond b (Some (position_or_len outside p)) None) (lt-ltb _ _ l)) in
    subst (Told p) (sym at) (some_first p 1 l))
    (λ (l : length p ≤ position_or_len outside p).
    let at : o ≡ None = next ∙ ap (option_map (λ i. i + 1)) (is ∙ ap (λ b. cond b (Some (position_or_len outside p)) None) (le-ltb _ _ l)) in
    subst (Told p) (sym at) (none_outside p l))
    (cases_lt (position_or_len outside p) (length p))

-- no effect is out of range
pub mild_each : (p : List ℤ) → some outside p ≡ false → (j : ℕ) → j < length p → outside (get_or p j (pos 0)) ≡ false
mild_each [] none j h = absurd (not-suc-le-zero h)
mild_each (e ∷ p) none zero h = (or_parts (outside e) (some outside p) none).0
mild_each (e ∷ p) none (suc j) h = mild_each p (or_parts (outside e) (some outside p) none).1 j (le_of_suc-le-suc h)
