-- Where a list stops passing a test: the first element that fails stands behind exactly the leading ones.
use Rattle.std.proofs.Common.{◌≡◌, ℕ, zero, suc, ◌+◌, ◌<◌, ◌≤◌, Bool, true, false, List, [], ◌∷◌, length, get_or, refl, ap, ◌∙◌, subst, inl, inr, le_of_suc-le-suc, not-suc-le-zero, arith}
use Rattle.std.specs.List.{prefix_len}
use Rattle.std.proofs.lemmas.Bool.{cases_Bool, cond-false}
use Rattle.cycle_theory.specs.Nets.{Mem}

module _ {A : Type 0} (p : A → Bool) (d : A) where
  leading_yes : (x : A) (l : List A) → p x ≡ true → prefix_len p (x ∷ l) ≡ suc (prefix_len p l)
  leading_yes x l t = grind arith

  leading_no : (x : A) (l : List A) → p x ≡ false → prefix_len p (x ∷ l) ≡ 0
  leading_no x l f = cond-false (p x) (1 + prefix_len p l) 0 f

  -- the elements before it pass
  pub passes_before : (l : List A) (i : ℕ) → i < prefix_len p l → p (get_or l i d) ≡ true
  passes_before [] i h = absurd (not-suc-le-zero h)
  passes_before (x ∷ l) zero h = grind arith
  passes_before (x ∷ l) (suc i) h = elim (cases_Bool (p x)) [
    | inl t ↦ passes_before l i (le_of_suc-le-suc (subst (λ n. suc i < n) (leading_yes x l t) h))
    | inr f ↦ absurd (not-suc-le-zero (subst (λ n. suc i < n) (leading_no x l f) h))
  ]

  -- it fails
  pub fails_there : (l : List A) → prefix_len p l < length l → p (get_or l (prefix_len p l) d) ≡ false
  fails_there [] h = absurd (not-suc-le-zero h)
  fails_there (x ∷ l) h = elim (cases_Bool (p x)) [
    | inl t ↦
        let e = leading_yes x l t in
        ap (λ n. p (get_or (x ∷ l) n d)) e ∙ fails_there l (le_of_suc-le-suc (subst (λ n. n < suc (length l)) e h))
    | inr f ↦ ap (λ n. p (get_or (x ∷ l) n d)) (leading_no x l f) ∙ f
  ]

  -- where the elements before i pass, and i fails, it is i
  pub first_failing : (l : List A) (i : ℕ) → i < length l → ((k : ℕ) → k < i → p (get_or l k d) ≡ true) → p (get_or l i d) ≡ false → prefix_len p l ≡ i
  first_failing [] i h before f = absurd (not-suc-le-zero h)
  first_failing (x ∷ l) zero h before f = leading_no x l f
  first_failing (x ∷ l) (suc i) h before f =
      leading_yes x l (before 0 (omega arith)) ∙ ap suc (first_failing l i (le_of_suc-le-suc h) (λ k q. before (suc k) (omega arith)) f)

  -- all pass
  pub none_failing : (l : List A) → ((k : ℕ) → k < length l → p (get_or l k d) ≡ true) → prefix_len p l ≡ length l
  none_failing [] all = refl
  none_failing (x ∷ l) all = leading_yes x l (all 0 (omega arith)) ∙ ap suc (none_failing l (λ k q. all (suc k) (omega arith)))

  -- where i elements pass, it is not among them
  pub passes_at_least : (l : List A) (i : ℕ) → i ≤ length l → ((k : ℕ) → k < i → p (get_or l k d) ≡ true) → i ≤ prefix_len p l
  passes_at_least l zero h all = omega arith
  passes_at_least [] (suc i) h all = absurd (not-suc-le-zero h)
  passes_at_least (x ∷ l) (suc i) h all =
      let r = passes_at_least l i (le_of_suc-le-suc h) (λ k q. all (suc k) (omega arith)) in
      let e = leading_yes x l (all 0 (omega arith)) in
      omega (arith, r, e)

  -- a member that fails
  pub stops_before : (l : List A) (a : A) → Mem a l → p a ≡ false → prefix_len p l < length l
  stops_before [] a m f = absurd m
  stops_before (x ∷ l) a (inl e) f = grind arith
  stops_before (x ∷ l) a (inr m) f = grind (arith, stops_before l a m f)

pub mem_get_or : {A : Type 0} (l : List A) (i : ℕ) (d : A) → i < length l → Mem (get_or l i d) l
mem_get_or [] i d h = absurd (not-suc-le-zero h)
mem_get_or (x ∷ l) zero d h = inl refl
mem_get_or (x ∷ l) (suc i) d h = inr (mem_get_or l i d (le_of_suc-le-suc h))
