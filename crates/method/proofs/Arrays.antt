-- The elements of an array that a closure made, one by one, where calling it changes nothing that it captures.
use Rattle.std.proofs.Common.{◌≡◌, ℕ, zero, suc, ◌+◌, ◌<◌, ◌≤◌, List, get_or, sym, ap, ◌∙◌, subst, ⊎_elim, arith}
use Rattle.std.proofs.lemmas.Bool.{cases_eq}
use Rattle.std.specs.Fn.{Mut, Called}
use Rattle.std.specs.Array.{IsFromFnResult, IsFromFnResultFrom, IsMapOf, MapsFrom}

module _ {F B : Type 0} (g : Mut F (ℕ × Unit {0}) B) (f : F) (h : ℕ → B) (d : B) (ys : List B) (same : (i : ℕ) (y : B) (q : F) → Called g f (i, tt) y q → (q ≡ f) × (y ≡ h i)) where
  made_from : (i n : ℕ) → IsFromFnResultFrom g f ys i n → (k : ℕ) → i ≤ k → k < i + n → get_or ys k d ≡ h k
  made_from i zero from k l u = absurd (omega (arith, l, u))
  made_from i (suc n) (q, y, is, called, rest) k l u = ⊎_elim
      (λ e. subst (λ j. get_or ys j d ≡ h j) (sym e) (is.1 d ∙ (same i y q called).1))
      (λ ne. made_from (i + 1) n (subst (λ p. IsFromFnResultFrom g p ys (i + 1) n) (same i y q called).0 rest) k (omega (arith, l, ne)) (omega (arith, u)))
      (cases_eq k i)

  pub made_at : (n : ℕ) → IsFromFnResult g f ys n → (k : ℕ) → k < n → get_or ys k d ≡ h k
  made_at n is k l = made_from 0 n is.each k (omega arith) (omega (arith, l))

module _ {F A B : Type 0} (g : Mut F (A × Unit {0}) B) (f : F) (h : A → B) (a : A) (b : B) (xs : List A) (ys : List B) (same : (x : A) (y : B) (q : F) → Called g f (x, tt) y q → (q ≡ f) × (y ≡ h x)) where
  mapped_from : (i n : ℕ) → MapsFrom g f xs ys i n → (k : ℕ) → i ≤ k → k < i + n → get_or ys k b ≡ h (get_or xs k a)
  mapped_from i zero from k l u = absurd (omega (arith, l, u))
  mapped_from i (suc n) (q, x, y, at, is, called, rest) k l u = ⊎_elim
      (λ e. subst (λ j. get_or ys j b ≡ h (get_or xs j a)) (sym e) (is.1 b ∙ (same x y q called).1 ∙ ap h (sym (at.1 a))))
      (λ ne. mapped_from (i + 1) n (subst (λ p. MapsFrom g p xs ys (i + 1) n) (same x y q called).0 rest) k (omega (arith, l, ne)) (omega (arith, u)))
      (cases_eq k i)

  pub mapped_at : (n : ℕ) → IsMapOf g f xs ys n → (k : ℕ) → k < n → get_or ys k b ≡ h (get_or xs k a)
  mapped_at n is k l = mapped_from 0 n is.each k (omega arith) (omega (arith, l))
