-- What the lines of a net say to a sheet, and what the sheet answers.
use Rattle.std.proofs.Common.{◌≡◌, ℕ, ◌+◌, ◌<◌, ◌≤◌, not, ◌&&◌, leb, List, [], ◌∷◌, ◌++◌, map, length, get_or, take, drop, ℤ, nat_abs, Ok, Err, sym, refl, ap, ◌∙◌, inl, inr, arith}
use Rattle.std.proofs.lemmas.Bool.{cond-true, cond-false, and_from, and_parts, le-leb, leb-true, cases_Bool}
use Rattle.std.proofs.lemmas.List.{take_more, take_all, drop_more, length-map, get_or-map}
use Rattle.inline_list.specs.Items.{items}
use Rattle.ledger.specs.declared.Ledger.{Ghosts as Kind}
use Rattle.sheet.specs.declared.fault.SheetFault.{SheetFault}
use Rattle.sheet.specs.declared.fault.SheetFault.TheVariants.{StepCount}
use Rattle.sheet.specs.declared.sheets.OpenSheet.{OpenSheet}
use Rattle.sheet.specs.Verdict.{Outcome, verdict, places_after}
use Rattle.sheet.specs.Sheets as sheet
use Rattle.grammar.specs.declared.mark.Mark.TheVariants.{Standing}
use Rattle.grammar.specs.declared.line.Line.{Line}
use Rattle.grammar.specs.Text.{Record, steps, standing, place, question, mark}
use Rattle.grammar.specs.Lines.{Shows}
use Rattle.netfile.specs.declared.standing.StandingPlace.{StandingPlace}
use Rattle.netfile.specs.Order.{rank}
use Rattle.netfile.specs.Files.{steps_of, places_of, and_then, offered, answer}
use Rattle.netfile.specs.Reading.{SheetOf}
use Rattle.netfile.proofs.Numbers.{values}
use Rattle.netfile.proofs.Verdicts.{verdict_front, right_length}

-- the first effects of a place, offered to the sheet of the records rs
module _ {L : Type 0} {k : Kind L} (before after : OpenSheet L k) (rs : List Record) (effects p : List ℤ) (answer : Outcome) where
  pub offer_answer : p ≡ take 25 effects → SheetOf before rs → sheet.Offered before p answer after → answer ≡ verdict k (steps_of rs) (places_of rs) effects
  offer_answer e of o =
      o.answered
      ∙ ap (verdict k (sheet.steps_of before) (sheet.places_of before)) e
      ∙ verdict_front k (sheet.steps_of before) (sheet.places_of before) effects before.steps.few.1
      ∙ ap (λ n. verdict k n (sheet.places_of before) effects) of.steps
      ∙ ap (λ A. verdict k (steps_of rs) A effects) of.places

  pub offer_accepted : p ≡ take 25 effects → SheetOf before rs → sheet.Offered before p answer after → answer ≡ Ok tt → SheetOf after (place effects ∷ rs)
  offer_accepted e of o done =
      let n = steps_of rs in
      let long : length effects ≡ n = right_length k n (places_of rs) effects (sym (offer_answer e of o) ∙ done) in
      let few = before.steps.few.1 in
      let same = of.steps in
      let whole : p ≡ effects = e ∙ take_all 25 effects (omega arith) in
      record {
        steps = o.steps ∙ of.steps;
        places = o.places ∙ ap (places_after (sheet.places_of before) p) done ∙ ap (λ A. A ++ p ∷ []) of.places ∙ ap (λ q. places_of rs ++ q ∷ []) whole;
      }

-- the places of a list, offered one after another
module _ {L : Type 0} (k : Kind L) (n : ℕ) (places : List (List ℤ)) (i : ℕ) (p : List ℤ) where
  next_offer : i < length places → p ≡ get_or places i [] → offered k n (take i places) (drop i places) ≡ and_then (verdict k n (take i places) p) (offered k n (take (i + 1) places) (drop (i + 1) places))
  next_offer h e =
      ap (offered k n (take i places)) (drop_more places i [] h)
      ∙ ap (λ A. and_then (verdict k n (take i places) (get_or places i [])) (offered k n A (drop (i + 1) places))) (sym (take_more places i [] h))
      ∙ ap (λ q. and_then (verdict k n (take i places) q) (offered k n (take (i + 1) places) (drop (i + 1) places))) (sym e)

  pub offered_more : i < length places → p ≡ get_or places i [] → verdict k n (take i places) p ≡ Ok tt → offered k n [] places ≡ offered k n (take i places) (drop i places) → offered k n [] places ≡ offered k n (take (i + 1) places) (drop (i + 1) places)
  offered_more h e done inv = inv ∙ next_offer h e ∙ ap (λ o. and_then o (offered k n (take (i + 1) places) (drop (i + 1) places))) done

  pub offered_stops : (fault : SheetFault) → i < length places → p ≡ get_or places i [] → verdict k n (take i places) p ≡ Err fault → offered k n [] places ≡ offered k n (take i places) (drop i places) → offered k n [] places ≡ Err fault
  offered_stops fault h e done inv = inv ∙ next_offer h e ∙ ap (λ o. and_then o (offered k n (take (i + 1) places) (drop (i + 1) places))) done

-- a place of the list, as the sheet answers to it
module _ {L : Type 0} {k : Kind L} (before after : OpenSheet L k) (n : ℕ) (places : List (List ℤ)) (i : ℕ) (p : List ℤ) (answer : Outcome) where
  pub listed_answer : sheet.steps_of before ≡ n → sheet.places_of before ≡ take i places → sheet.Offered before p answer after → answer ≡ verdict k n (take i places) p
  listed_answer many is o =
      o.answered ∙ ap (λ m. verdict k m (sheet.places_of before) p) many ∙ ap (λ A. verdict k n A p) is

  pub listed_places : i < length places → p ≡ get_or places i [] → sheet.places_of before ≡ take i places → sheet.Offered before p answer after → answer ≡ Ok tt → sheet.places_of after ≡ take (i + 1) places
  listed_places h e is o done =
      o.places ∙ ap (places_after (sheet.places_of before) p) done ∙ ap (λ A. A ++ p ∷ []) is ∙ ap (λ q. take i places ++ q ∷ []) e ∙ sym (take_more places i [] h)

-- the standing net's table
pub table_row : (rows : List StandingPlace) (places : List (List ℤ)) (i : ℕ) (d : StandingPlace) → map (λ place. place.effects) rows ≡ places → i < length places → (get_or rows i d).effects ≡ get_or places i []
table_row rows places i d e h =
    let l1 = ap length e in
    let l2 = length-map rows (λ (place : StandingPlace). place.effects) in
    sym (get_or-map (λ (place : StandingPlace). place.effects) rows i d [] (omega arith)) ∙ ap (λ l. get_or l i []) e

-- the number that an `N:` line says
pub said_steps : (i : ℕ) (l : Line) (of : Record) → Shows i l of → rank (mark of) ≡ 0 → (l.mark ≡ Standing → ⊥) → (n : ℕ) × (of ≡ steps n) × (map (λ f. nat_abs f.value) (items l.fields) ≡ n ∷ [])
said_steps i l (steps n) shows zero other = (n, refl, values nat_abs i l (steps n) shows)
said_steps i l standing shows zero other = absurd (other shows.marked)
said_steps i l (place effects) shows zero other = absurd (omega arith)
said_steps i l (question counts) shows zero other = absurd (omega arith)

pub opened_steps : {L : Type 0} {k : Kind L} (s : OpenSheet L k) (m n : ℕ) → sheet.Opened m s → m ≡ n → 1 ≤ m → m ≤ 24 → (answer k [] (steps n) ≡ Ok tt) × SheetOf s (steps n ∷ [])
opened_steps s m n o same low high = (
  cond-false _ _ _ (ap not (and_from (leb 1 n) (leb n 24) (le-leb 1 n (omega arith)) (le-leb n 24 (omega arith)))),
  record { steps = o.steps ∙ same; places = o.places },
)

pub refused_steps : {L : Type 0} (k : Kind L) (n : ℕ) → ((1 ≤ n) × (n ≤ 24) → ⊥) → answer k [] (steps n) ≡ Err StepCount
refused_steps k n h = elim (cases_Bool (leb 1 n && leb n 24)) [
  | inl e ↦ let parts = and_parts (leb 1 n) (leb n 24) e in absurd (h (leb-true 1 n parts.0, leb-true n 24 parts.1))
  | inr e ↦ cond-true _ _ _ (ap not e)
]
