-- Which cause a refusal tells: the first that holds. Assumes nothing.
use Rattle.std.proofs.Common.{◌≡◌, ℕ, ◌<◌, ◌≤◌, true, false, List, [], ◌∷◌, ◌++◌, length, ℤ, is_ok, Ok, Err, Result, refl, sym, ap, inl, inr}
use Rattle.std.proofs.lemmas.Bool.{cases_Bool, eq-eqb, ne_eqb, le-leb, lt-leb, false≢true}
use Rattle.ledger.specs.declared.Ledger.{Ghosts as Kind}
use Rattle.cycle_theory.specs.Method.{tss}
use Rattle.method.specs.declared.fault.StepFault.{StepFault}
use Rattle.method.specs.Effects.{some, outside, first_outside}
use Rattle.method.specs.Stepping.{some_large, overfull, step_answer}
use Rattle.sheet.specs.declared.fault.SheetFault.{SheetFault}
use Rattle.sheet.specs.declared.fault.SheetFault.TheVariants.{Length, Effect, PlacesFull}
use Rattle.sheet.specs.Faults.{from_step}
use Rattle.sheet.specs.Verdict.{Outcome, causes, first_of, verdict}

-- done is not refused
pub done_not_refused : (fault : SheetFault) → ◌≡◌ {A = Outcome} (Ok tt) (Err fault) → ⊥
done_not_refused fault e = false≢true (sym (ap (λ (r : Outcome). is_ok r) e))

-- what a sheet says of the answer to the new rows
abbrev pub lifted : Result (Unit {0}) StepFault → Outcome
lifted (Ok _) = Ok tt
lifted (Err e) = Err (from_step e)

module _ {L : Type 0} (k : Kind L) (n : ℕ) (A : List (List ℤ)) (p : List ℤ) where
  pub verdict_is : verdict k n A p ≡ first_of (causes k n A p (tss n (A ++ p ∷ [])))
  unfolding verdict
  verdict_is = refl

  pub told_length : (length p ≡ n → ⊥) → verdict k n A p ≡ Err Length
  unfolding verdict
  told_length ne = rw (ne_eqb (length p) n ne) refl

  module _ (long : length p ≡ n) where
    pub told_effect : some outside p ≡ true → verdict k n A p ≡ Err (Effect (first_outside 1 p))
    unfolding verdict
    told_effect o = rw (eq-eqb (length p) n long, o) refl

    module _ (mild : some outside p ≡ false) where
      pub told_full : 32 ≤ length A → verdict k n A p ≡ Err PlacesFull
      unfolding verdict
      told_full h = rw (eq-eqb (length p) n long, mild, le-leb 32 (length A) h) refl

      pub told_rows : length A < 32 → verdict k n A p ≡ lifted (step_answer k (tss n (A ++ p ∷ [])))
      unfolding verdict
      told_rows h =
          rw (eq-eqb (length p) n long, mild, lt-leb 32 (length A) h) (elim (cases_Bool (some_large (tss n (A ++ p ∷ [])))) [
            | inl large ↦ rw large refl
            | inr small ↦ rw small (elim (cases_Bool (overfull k (tss n (A ++ p ∷ [])))) [
              | inl full ↦ rw full refl
              | inr fits ↦ rw fits refl
            ])
          ])
