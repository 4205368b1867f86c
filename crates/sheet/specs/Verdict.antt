-- What an offered place is answered: refused with the first cause that holds, or accepted.
--
--   Outcome                 what a call that may be refused answers: done, or why not
--   Cause                   a test, and the refusal that it leads to
--   first_of causes         refused with the first cause that holds, done where none does
--   causes k n A p new      the causes for which a sheet of n steps, with the places A, on a ledger of kind k refuses the place p, in their order;
--                           `new` are the rows that the sheet would have with the place
--   verdict k n A p         what offering p to that sheet answers
--   places_after A p answer the places after that answer
use Rattle.std.specs.Prelude.{ℕ, Bool, cond, not, List, [], ◌∷◌, ◌++◌, length, Ok, Err, Result, ◌==◌, nat_le}
use Rattle.ledger.specs.declared.Ledger.{Ghosts as Kind}
use Rattle.ledger.specs.declared.fault.LedgerFault.TheVariants.{Full}
use Rattle.cycle_theory.specs.Nets.{Counts, Place}
use Rattle.cycle_theory.specs.Method.{tss}
use Rattle.method.specs.Effects.{some, outside, first_outside}
use Rattle.method.specs.Stepping.{some_large, overfull}
use Rattle.sheet.specs.declared.fault.SheetFault.{SheetFault}
use Rattle.sheet.specs.declared.fault.SheetFault.TheVariants.{Length, Effect, PlacesFull, RowTooLarge, Ledger}

abbrev pub Outcome : Type 0
Outcome = Result (Unit {0}) SheetFault

pub record Cause : Type 0 where
  pub holds : Bool
  pub fault : SheetFault

abbrev pub cause : Bool → SheetFault → Cause
cause holds fault = record { holds = holds; fault = fault }

abbrev pub first_of : List Cause → Outcome
first_of [] = Ok tt
first_of (c ∷ cs) = cond c.holds (Err c.fault) (first_of cs)

abbrev pub causes : {L : Type 0} → Kind L → ℕ → List Place → Place → List Counts → List Cause
causes k n places p new =
    cause (not (length p == n)) Length
    ∷ cause (some outside p) (Effect (first_outside 1 p))
    ∷ cause (nat_le 32 (length places)) PlacesFull
    ∷ cause (some_large new) RowTooLarge
    ∷ cause (overfull k new) (Ledger Full)
    ∷ []

unfoldable pub verdict : {L : Type 0} → Kind L → ℕ → List Place → Place → Outcome
verdict k n places p = first_of (causes k n places p (tss n (places ++ p ∷ [])))

abbrev pub places_after : List Place → Place → Outcome → List Place
places_after places p (Ok _) = places ++ p ∷ []
places_after places p (Err fault) = places
