-- Why a question is refused before it is answered. Assumes nothing.
use Rattle.std.proofs.Common.{◌≡◌, ℕ, zero, suc, ◌-◌, ◌<◌, ◌≤◌, true, false, not, eqb, ltb, [], ◌∷◌, length, Ok, Err, sym, refl, ap, ◌∙◌, subst, inl, inr, arith}
use Rattle.std.specs.List.{prefix_len}
use Rattle.std.proofs.lemmas.Bool.{eq-eqb, eqb-true, lt-ltb, le-ltb, ltb-false, cases_Bool}
use Rattle.ledger.specs.Rows.{Small, FirstLarge}
use Rattle.cycle_theory.specs.Nets.{Counts, at}
use Rattle.cycle_theory.proofs.Rows.{split, at_past}
use Rattle.method.specs.Effects.{some}
use Rattle.method.specs.Stepping.{wide}
use Rattle.sheet.specs.declared.fault.SheetFault.TheVariants.{Length, Count, ListTooShort}
use Rattle.sheet.specs.Certifying.{large, first_large, asking}
use Rattle.sheet.proofs.Causes.{done_not_refused}
use Rattle.method.proofs.Widening.{at_wide}

none_large : (x : Counts) → ((j : ℕ) → at x j ≤ 1048575) → some large x ≡ false
none_large [] h = refl
none_large (c ∷ x) h = rw (le-ltb 1048575 c (h 0), none_large x (λ j. h (suc j))) refl

first_large_is : (x : Counts) (j : ℕ) → 1048575 < at x j → ((i : ℕ) → i < j → at x i ≤ 1048575) → (some large x ≡ true) × (prefix_len (λ c. not (large c)) x ≡ j)
first_large_is [] j h before = absurd (omega arith)
first_large_is (c ∷ x) zero h before = rw (lt-ltb 1048575 c h) (refl, refl)
first_large_is (c ∷ x) (suc j) h before =
    let r = first_large_is x j h (λ i l. before (suc i) (omega arith)) in
    rw (le-ltb 1048575 c (before 0 (omega arith))) (r.0, let e = r.1 in omega (arith, e))

module _ (n rows : ℕ) (x : Counts) (entries : ℕ) (few : n ≤ 24) (long : length x ≡ n) (room : rows ≤ entries) where
  -- all counts of the wide row are small
  pub asked_all : (counts : Counts) → counts ≡ wide x → Small counts → asking n rows x entries ≡ Ok tt
  asked_all counts e small =
      let none = none_large x (λ j. elim (split 24 j) [
        | inl h ↦ omega (arith, at_past x j (omega (arith, few, long, h)))
        | inr h ↦ subst (λ c. c ≤ 1048575) (ap (λ (r : Counts). at r j) e ∙ at_wide x j) (small j h)
      ]) in
      rw (eq-eqb (length x) n long, le-ltb entries rows room, none) refl

  -- one is not
  pub asked_large : (counts : Counts) (j : ℕ) → counts ≡ wide x → FirstLarge counts j → asking n rows x entries ≡ Err (Count j)
  asked_large counts j e f =
      let is : (i : ℕ) → at counts i ≡ at x i = λ i. ap (λ (r : Counts). at r i) e ∙ at_wide x i in
      let r = first_large_is x (j - 1) (subst (λ c. 1048575 < c) (is (j - 1)) f.2) (λ i l. subst (λ c. c ≤ 1048575) (is i) (f.3 i l)) in
      let step : first_large x ≡ j = omega (arith, r.1, f.0) in
      rw (eq-eqb (length x) n long, le-ltb entries rows room, r.0) (ap (λ i. Err (Count i)) step)

-- what a question that may be asked has
module _ (n rows : ℕ) (x : Counts) (entries : ℕ) (e : asking n rows x entries ≡ Ok tt) where
  pub asked_long : length x ≡ n
  asked_long = elim (cases_Bool (eqb (length x) n)) [
    | inl t ↦ eqb-true (length x) n t
    | inr f ↦ absurd (done_not_refused Length (sym (rw f at e)))
  ]

  pub asked_room : rows ≤ entries
  asked_room = elim (cases_Bool (ltb entries rows)) [
    | inl t ↦ absurd (done_not_refused ListTooShort (sym (rw (eq-eqb (length x) n asked_long, t) at e)))
    | inr f ↦ ltb-false entries rows f
  ]
