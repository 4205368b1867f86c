-- What the sheet says to a place is said of its first 25 effects, since no sheet has so many steps; and which step a refusal names.
use Rattle.std.proofs.Common.{◌≡◌, ℕ, ◌≤◌, not, ◌⊎◌, List, length, take, ℤ, pos, None, Ok, Err, sym, ap, ◌∙◌, inl, inr, arith}
use Rattle.std.proofs.lemmas.Bool.{cond-true, ne_eqb, cases_lt, cases_eq}
use Rattle.std.proofs.lemmas.List.{take_all, length-take-le, length-map}
use Rattle.ledger.specs.declared.Ledger.{Ghosts as Kind}
use Rattle.sheet.specs.declared.fault.SheetFault.{SheetFault}
use Rattle.sheet.specs.declared.fault.SheetFault.TheVariants.{Length}
use Rattle.sheet.specs.Faults.{bracket}
use Rattle.sheet.specs.Verdict.{Outcome, verdict}
use Rattle.grammar.specs.Text.{Record, steps, standing, place, question, numbers}
use Rattle.netfile.specs.Files.{steps_of, places_of, asked, answer}

-- a place of another length than the steps
pub wrong_length : {L : Type 0} (k : Kind L) (n : ℕ) (places : List (List ℤ)) (p : List ℤ) → (length p ≡ n → ⊥) → verdict k n places p ≡ Err Length
unfolding verdict
wrong_length k n places p h = cond-true _ _ _ (ap not (ne_eqb (length p) n h))

pub verdict_front : {L : Type 0} (k : Kind L) (n : ℕ) (places : List (List ℤ)) (p : List ℤ) → n ≤ 24 → verdict k n places (take 25 p) ≡ verdict k n places p
verdict_front k n places p few =
    elim (cases_lt 25 (length p)) [
      | inl long ↦
          let size = length-take-le 25 p (omega arith) in
          wrong_length k n places (take 25 p) (λ e. omega arith) ∙ sym (wrong_length k n places p (λ e. omega arith))
      | inr short ↦ ap (verdict k n places) (take_all 25 p short)
    ]

-- an accepted place has as many effects as there are steps
pub right_length : {L : Type 0} (k : Kind L) (n : ℕ) (places : List (List ℤ)) (p : List ℤ) → verdict k n places p ≡ Ok tt → length p ≡ n
right_length k n places p h =
    elim (cases_eq (length p) n) [
      | inl e ↦ e
      | inr d ↦ let e : Ok tt ≡ Err Length = sym h ∙ wrong_length k n places p d in cc
    ]

-- and a question that is asked as many counts
pub asked_wrong_length : (n : ℕ) (counts : List ℕ) → (length counts ≡ n → ⊥) → asked n counts ≡ Err Length
asked_wrong_length n counts h = cond-true _ _ _ (ap not (ne_eqb (length counts) n h))

none_of_length : (o : Outcome) (fault : SheetFault) → o ≡ Err Length → o ≡ Err fault → bracket fault ≡ None
none_of_length o fault e f = let same : fault ≡ Length = cc in ap bracket same

-- a refusal names a step only where the line has at most 25 numbers
pub names_few : {L : Type 0} (k : Kind L) (rs : List Record) (r : Record) (fault : SheetFault) → steps_of rs ≤ 24 → answer k rs r ≡ Err fault → (bracket fault ≡ None) ⊎ (length (numbers r) ≤ 25)
names_few k rs (steps n) fault few e = inr (omega arith)
names_few k rs standing fault few e = inr (omega arith)
names_few k rs (place effects) fault few e =
    elim (cases_lt 25 (length effects)) [
      | inl long ↦ inl (none_of_length (verdict k (steps_of rs) (places_of rs) effects) fault (wrong_length k (steps_of rs) (places_of rs) effects (λ s. omega arith)) e)
      | inr short ↦ inr short
    ]
names_few k rs (question counts) fault few e =
    let size = length-map counts pos in
    elim (cases_lt 25 (length counts)) [
      | inl long ↦ inl (none_of_length (asked (steps_of rs) counts) fault (asked_wrong_length (steps_of rs) counts (λ s. omega arith)) e)
      | inr short ↦ inr (omega arith)
    ]
