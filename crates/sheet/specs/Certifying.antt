-- What certifying answers, and what it leaves in the list handed in.
--
--   large c                   the count is above 1,048,575
--   first_large x             the first step, from 1, whose count is large
--   asking n rows x entries   why a question x cannot be asked of so many steps and rows with so many entries in the list: the first cause that holds
--   answering n A x entries   what the question x is answered on a sheet of n steps with the places A
--   list_after cs list answer the list after the answer: the coefficients cs in front where it is certified, else as it was
--   Says n A x list answer    what the answer says of the question, and of the list that it leaves
--   Certifying ..             all of it: the question x and the list `list` were answered so, and the list left as list'
use Rattle.std.specs.Prelude.{◌≡◌, ℕ, ◌+◌, Bool, not, List, [], ◌∷◌, ◌++◌, length, take, drop, ℤ, Ok, Err, Result, ◌==◌, nat_lt}
use Rattle.std.specs.List.{prefix_len}
use Rattle.cycle_theory.specs.Nets.{Cycle}
use Rattle.cycle_theory.specs.Method.{tss}
use Rattle.cycle_theory.specs.Walk.{outcome}
use Rattle.cycle_theory.specs.Questions.{Certificate, FirstBroken}
use Rattle.method.specs.Effects.{some}
use Rattle.sheet.specs.declared.answer.Answer.{Answer}
use Rattle.sheet.specs.declared.answer.Answer.TheVariants.{Certified, Broken, TooLarge}
use Rattle.sheet.specs.declared.fault.SheetFault.{SheetFault}
use Rattle.sheet.specs.declared.fault.SheetFault.TheVariants.{Length, Count, ListTooShort}
use Rattle.sheet.specs.Verdict.{cause, first_of}
use Rattle.sheet.specs.Answers.{answer_of, coefficients_in}

abbrev pub large : ℕ → Bool
large c = nat_lt 1048575 c

abbrev pub first_large : List ℕ → ℕ
first_large x = prefix_len (λ c. not (large c)) x + 1

abbrev pub asking : ℕ → ℕ → List ℕ → ℕ → Result (Unit {0}) SheetFault
asking n rows x entries =
    first_of (cause (not (length x == n)) Length ∷ cause (nat_lt entries rows) ListTooShort ∷ cause (some large x) (Count (first_large x)) ∷ [])

-- the refusal, or else the answer
abbrev pub unless_refused : Result (Unit {0}) SheetFault → Answer → Result Answer SheetFault
unless_refused (Ok _) answer = Ok answer
unless_refused (Err fault) answer = Err fault

abbrev pub answering : ℕ → List (List ℤ) → List ℕ → ℕ → Result Answer SheetFault
answering n places x entries = unless_refused (asking n (length (tss n places)) x entries) (answer_of (outcome places (tss n places) x))

abbrev pub list_after : List ℕ → List ℕ → Result Answer SheetFault → List ℕ
list_after cs list (Ok (Certified multiplier)) = cs ++ drop (length cs) list
list_after cs list (Ok (Broken place)) = list
list_after cs list (Ok TooLarge) = list
list_after cs list (Err fault) = list

abbrev pub Says : ℕ → List (List ℤ) → List ℕ → List ℕ → Result Answer SheetFault → Type 0
Says n places x list (Ok (Certified multiplier)) = Cycle n places x × Certificate multiplier (take (length (tss n places)) list) x (tss n places)
Says n places x list (Ok (Broken place)) = (Cycle n places x → ⊥) × FirstBroken places x place
Says n places x list (Ok TooLarge) = Cycle n places x
Says n places x list (Err fault) = Unit {0}

pub record Certifying (n : ℕ) (places : List (List ℤ)) (x list : List ℕ) (answer : Result Answer SheetFault) (list' : List ℕ) : Type 0 where
  pub answered : answer ≡ answering n places x (length list)
  pub left : list' ≡ list_after (coefficients_in (outcome places (tss n places) x)) list answer
  pub says : Says n places x list' answer
