-- One place more: which rows the ledgers hold before and after, and why a place is refused.
--
--   wide x               a row as a ledger holds it: 24 counts, those past the net's steps 0
--   written rows         the rows so
--   some_large rows      some count of some row is above 1,048,575
--   overfull kind rows   the charges of the rows pass the total of the ledger's kind
--   step_answer kind new the answer where `new` are the rows after the place: the first of the two causes that holds, or accepted
--   spare_after r new    the rows in the spare ledger after the answer r: the new ones, or none
--   Made kind new r s    the answer r and the spare ledger s that a place leaves, where `new` are the rows after it
--   Next kind p c s r s' what offering the place p to the rows of the ledger c answers, and what it makes of the spare ledger s
--   First kind n l       the ledger l holds the rows of a net of n steps that has no place yet; n above 24 is read as 24
use Rattle.std.specs.Prelude.{◌≡◌, ℕ, ◌-◌, ◌≤◌, min, Bool, cond, List, [], ◌∷◌, ◌++◌, map, length, replicate, ℤ, Ok, Err, sum_by, Result, nat_lt}
use Rattle.cycle_theory.specs.Method.{tss}
use Rattle.ledger.specs.declared.Ledger.{Ghosts as Kind}
use Rattle.ledger.specs.declared.fault.LedgerFault.TheVariants.{Full}
use Rattle.method.specs.declared.fault.StepFault.{StepFault}
use Rattle.method.specs.declared.fault.StepFault.TheVariants.{RowTooLarge, Ledger}
use Rattle.method.specs.Effects.{some}

abbrev pub wide : List ℕ → List ℕ
wide x = x ++ replicate (24 - length x) 0

abbrev pub written : List (List ℕ) → List (List ℕ)
written rows = map wide rows

abbrev pub some_large : List (List ℕ) → Bool
some_large rows = some (some (nat_lt 1048575)) rows

abbrev pub overfull : {L : Type 0} → Kind L → List (List ℕ) → Bool
overfull kind rows = nat_lt kind.TOTAL (sum_by kind.charge (written rows))

abbrev pub step_answer : {L : Type 0} → Kind L → List (List ℕ) → Result (Unit {0}) StepFault
step_answer kind new = cond (some_large new) (Err RowTooLarge) (cond (overfull kind new) (Err (Ledger Full)) (Ok tt))

abbrev pub spare_after : Result (Unit {0}) StepFault → List (List ℕ) → List (List ℕ)
spare_after (Ok _) new = written new
spare_after (Err _) new = []

pub record Made {L : Type 0} (kind : Kind L) (new : List (List ℕ)) (answer : Result (Unit {0}) StepFault) (spare : L) : Type 0 where
  pub order : kind.orderly spare
  pub answered : answer ≡ step_answer kind new
  pub rows : kind.rows spare ≡ spare_after answer new

-- promised where the current ledger holds the method's rows of a net of at most 24 steps, and the spare one is empty
abbrev pub Next : {L : Type 0} → Kind L → List ℤ → L → L → Result (Unit {0}) StepFault → L → Type 0
Next kind p current spare answer spare' =
    (n : ℕ) (places : List (List ℤ)) → n ≤ 24 → kind.orderly current → kind.rows current ≡ written (tss n places) → kind.orderly spare → kind.rows spare ≡ [] →
    Made kind (tss n (places ++ p ∷ [])) answer spare'

pub record First {L : Type 0} (kind : Kind L) (n : ℕ) (ledger : L) : Type 0 where
  pub order : kind.orderly ledger
  pub held : kind.rows ledger ≡ written (tss (min n 24) [])
