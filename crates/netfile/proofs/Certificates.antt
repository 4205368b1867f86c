-- A question of a line, and the answer that the sheet gives to it.
use Rattle.std.proofs.Common.{◌≡◌, ℕ, ◌≤◌, cond, not, eqb, ltb, List, length, take, drop, ℤ, Ok, Err, Result, sym, refl, ap, ◌∙◌, subst, inl, inr, arith}
use Rattle.std.proofs.lemmas.Bool.{cond-true, cond-false, ne_eqb, le-ltb, cases_lt, cases_eq}
use Rattle.std.proofs.lemmas.List.{take_all, take_at, length-take-le}
use Rattle.ledger.specs.declared.Ledger.{Ghosts as Kind}
use Rattle.cycle_theory.specs.Method.{tss}
use Rattle.cycle_theory.specs.Walk.{Outcome, certified, broken, too_large, stuck, outcome}
use Rattle.cycle_theory.specs.Questions.{Right}
use Rattle.cycle_theory.proofs.WalkingNets.{outcome_right}
use Rattle.method.specs.Effects.{some}
use Rattle.sheet.specs.declared.answer.Answer.{Answer}
use Rattle.sheet.specs.declared.answer.Answer.TheVariants.{Certified}
use Rattle.sheet.specs.declared.fault.SheetFault.{SheetFault}
use Rattle.sheet.specs.declared.fault.SheetFault.TheVariants.{Length, Count, ListTooShort}
use Rattle.sheet.specs.declared.sheets.ClosedSheet.{ClosedSheet}
use Rattle.sheet.specs.Verdict as verdict
use Rattle.sheet.specs.Sheets.{closed_list, places_in}
use Rattle.sheet.specs.Answers.{answer_of, coefficients_in}
use Rattle.sheet.specs.Certifying.{large, first_large, asking, unless_refused, list_after, Certifying}
use Rattle.grammar.specs.Text.{Record}
use Rattle.netfile.specs.Files.{steps_of, places_of, asked}
use Rattle.netfile.specs.Printouts.{outcome_line}
use Rattle.netfile.specs.Reading.{ClosedOf, answer_line, judged_line}
use Rattle.netfile.proofs.Verdicts.{asked_wrong_length}
use Rattle.netfile.proofs.Listing.{listed_rows}

-- what is said to a question is said of its first 25 counts, where the list has room for the coefficients
asking_wrong_length : (n rows : ℕ) (x : List ℕ) (entries : ℕ) → (length x ≡ n → ⊥) → asking n rows x entries ≡ Err Length
asking_wrong_length n rows x entries h = cond-true _ _ _ (ap not (ne_eqb (length x) n h))

pub asking_front : (n rows : ℕ) (counts : List ℕ) (entries : ℕ) → n ≤ 24 → rows ≤ entries → asking n rows (take 25 counts) entries ≡ asked n counts
asking_front n rows counts entries few room =
    elim (cases_lt 25 (length counts)) [
      | inl long ↦
          let size = length-take-le 25 counts (omega arith) in
          asking_wrong_length n rows (take 25 counts) entries (λ e. omega arith) ∙ sym (asked_wrong_length n counts (λ e. omega arith))
      | inr short ↦
          ap (λ x. asking n rows x entries) (take_all 25 counts short)
          ∙ ap (cond (not (eqb (length counts) n)) (Err Length)) (cond-false (ltb entries rows) (Err ListTooShort) (cond (some large counts) (Err (Count (first_large counts))) (Ok tt)) (le-ltb entries rows room))
    ]

asked_right_length : (n : ℕ) (counts : List ℕ) → asked n counts ≡ Ok tt → length counts ≡ n
asked_right_length n counts h =
    elim (cases_eq (length counts) n) [
      | inl e ↦ e
      | inr d ↦ let e : Ok tt ≡ Err Length = sym h ∙ asked_wrong_length n counts d in cc
    ]

refused_from : (o : verdict.Outcome) (a : Answer) (fault : SheetFault) → unless_refused o a ≡ Err fault → o ≡ Err fault
refused_from (Ok _) a fault e = cc
refused_from (Err f) a fault e = let same : f ≡ fault = cc in ap Err same

answered_from : (o : verdict.Outcome) (a answer : Answer) → unless_refused o a ≡ Ok answer → (o ≡ Ok tt) × (answer ≡ a)
answered_from (Ok _) a answer e = let same : answer ≡ a = cc in (refl, same)
answered_from (Err f) a answer e = cc

-- the answer and the list that it leaves tell the outcome
tells_outcome : (n : ℕ) (places : List (List ℤ)) (x : List ℕ) (o : Outcome) (list : List ℕ) → Right n places x o → answer_line (answer_of o) (take (length (tss n places)) (list_after (coefficients_in o) list (Ok (answer_of o)))) ≡ outcome_line o
tells_outcome n places x (certified t cs) list right = ap (answer_line (Certified t)) (take_at cs (drop (length cs) list) (length (tss n places)) right.1.one_each)
tells_outcome n places x (broken place) list right = refl
tells_outcome n places x too_large list right = refl
tells_outcome n places x stuck list right = refl

module _ {L : Type 0} {k : Kind L} (c : ClosedSheet L k) (rs : List Record) (of : ClosedOf c rs) (counts x list : List ℕ) (front : x ≡ take 25 counts) (room : length (closed_list c) ≤ length list) (r : Result Answer SheetFault) (list' : List ℕ) (told : Certifying c.steps.n (places_in c) x list r list') where
  abbrev n : ℕ
  n = c.steps.n

  abbrev rows : List (List ℕ)
  rows = tss n (places_in c)

  listed : closed_list c ≡ rows
  listed = listed_rows c

  asked_so : asking n (length rows) x (length list) ≡ asked (steps_of rs) counts
  asked_so =
      let few = c.steps.few.1 in
      ap (λ y. asking n (length rows) y (length list)) front ∙ asking_front n (length rows) counts (length list) few (subst (λ l. length l ≤ length list) listed room) ∙ ap (λ m. asked m counts) of.steps

  pub question_refused : (fault : SheetFault) → r ≡ Err fault → asked (steps_of rs) counts ≡ Err fault
  question_refused fault e = sym asked_so ∙ refused_from _ _ fault (sym told.answered ∙ e)

  pub question_answered : (answer : Answer) → r ≡ Ok answer → (asked (steps_of rs) counts ≡ Ok tt) × (judged_line (length (closed_list c)) (record { answer = answer; coefficients = list' }) ≡ outcome_line (outcome (places_of rs) (closed_list c) counts))
  question_answered answer e =
      let parts = answered_from _ _ answer (sym told.answered ∙ e) in
      let done : asked (steps_of rs) counts ≡ Ok tt = sym asked_so ∙ parts.0 in
      let few = c.steps.few.1 in
      let long : length counts ≡ n = asked_right_length (steps_of rs) counts done ∙ sym of.steps in
      let whole : x ≡ counts = front ∙ take_all 25 counts (omega arith) in
      let o = outcome (places_in c) rows x in
      let right : Right n (places_in c) x o = outcome_right n (places_in c) x (ap length whole ∙ long) in
      let left : list' ≡ list_after (coefficients_in o) list (Ok (answer_of o)) = told.left ∙ ap (list_after (coefficients_in o) list) (e ∙ ap Ok parts.1) in (
        done,
        ap (λ a. answer_line a (take (length (closed_list c)) list')) parts.1
            ∙ ap (λ l. answer_line (answer_of o) (take (length l) list')) listed
            ∙ ap (λ l. answer_line (answer_of o) (take (length rows) l)) left
            ∙ tells_outcome n (places_in c) x o list right
            ∙ ap (λ y. outcome_line (outcome (places_in c) rows y)) whole
            ∙ ap (λ A. outcome_line (outcome A rows counts)) of.places
            ∙ ap (λ l. outcome_line (outcome (places_of rs) l counts)) (sym listed),
      )
