-- One place after another into a sheet. Assumes nothing.
use Rattle.std.proofs.Common.{◌≡◌, ℕ, ◌+◌, ◌<◌, ◌≤◌, List, [], ◌∷◌, ◌++◌, map, length, get_or, take, Ok, Err, sym, refl, ap, ◌∙◌, not-suc-le-zero, arith, take_all, below_more}
use Rattle.std.proofs.lemmas.List.{take_more, length-map, get_or-map}
use Rattle.ledger.specs.declared.Ledger.{Ghosts as Kind}
use Rattle.cycle_theory.specs.Nets.{Place}
use Rattle.method.specs.declared.place.Place.{Place as Kept}
use Rattle.method.specs.Places.{effects_of}
use Rattle.sheet.specs.declared.fault.SheetFault.{SheetFault}
use Rattle.sheet.specs.declared.sheets.OpenSheet.{OpenSheet}
use Rattle.sheet.specs.Verdict.{Outcome, verdict}
use Rattle.sheet.specs.Sheets.{places_of, Opened, Offered}
use Rattle.sheet.specs.Runs.{History, offered, accepted, CameBy}
use Rattle.sheet.specs.Order.{Ordered, OrderKept}
use Rattle.sheet.proofs.Histories.{Known, known}
use Rattle.nets.specs.Nets.{answer_at, Stops, Filled, FilledInOrder}

-- the effects offered are those of the place at i
pub offered_at :
    (places : List Kept) (i : ℕ) → i < length places → (place : Kept) → place ≡ get_or places i place → (p : Place) → p ≡ effects_of place →
    (i < length (map effects_of places)) × (p ≡ get_or (map effects_of places) i [])
offered_at places i h place here p is = (
  omega (arith, length-map places effects_of, h),
  is ∙ ap (λ (x : Kept). effects_of x) here ∙ sym (get_or-map effects_of places i place [] h),
)

-- the first i places were accepted after `start`, and s is the sheet after them
pub record Reached {L : Type 0} {k : Kind L} (n : ℕ) (places : List Place) (i : ℕ) (start s : OpenSheet L k) : Type 0 where
  pub accepts : (j : ℕ) → j < i → answer_at k n places j ≡ Ok tt
  pub history : History
  pub came : CameBy n history s
  pub places_are : accepted history ≡ take i places
  pub kept : Ordered start → OrderKept n history s came

module _ {L : Type 0} {k : Kind L} (n : ℕ) (places : List Place) (start : OpenSheet L k) where
  pub reached_none : Opened n start → Reached n places 0 start start
  reached_none o = record { accepts = λ j h. absurd (not-suc-le-zero h); history = []; came = o; places_are = refl; kept = λ order. order }

  module _ (i : ℕ) (s t : OpenSheet L k) (p : Place) (r : Reached n places i start s) (is : p ≡ get_or places i []) where
    answer_right : (answer : Outcome) → Offered s p answer t → answer ≡ answer_at k n places i
    answer_right answer o =
        let w : Known n r.history s = known n r.history s r.came in
        o.answered ∙ ap (λ (m : ℕ). verdict k m (places_of s) p) w.steps
        ∙ ap (λ (A : List Place). verdict k n A p) (w.places ∙ r.places_are) ∙ ap (λ (q : Place). verdict k n (take i places) q) is

    pub reached_more : i < length places → Offered s p (Ok tt) t → (Ordered s → Ordered t) → Reached n places (i + 1) start t
    reached_more h o keeps = record {
      accepts = below_more (λ j. answer_at k n places j ≡ Ok tt) i r.accepts (sym (answer_right (Ok tt) o));
      history = offered p (Ok tt) ∷ r.history;
      came = (s, r.came, o);
      places_are = ap (λ (A : List Place). A ++ p ∷ []) r.places_are ∙ ap (λ (q : Place). take i places ++ q ∷ []) is ∙ sym (take_more places i [] h);
      kept = λ order. (r.kept order, keeps);
    }

    pub reached_stop : i < length places → (fault : SheetFault) → Offered s p (Err fault) t → Stops k n places fault
    reached_stop h fault o = record { at = i; within = h; before = r.accepts; here = sym (answer_right (Err fault) o) }

  abbrev pub reached_all : (i : ℕ) (s : OpenSheet L k) → length places ≤ i → Reached n places i start s → Filled n places s
  reached_all i s h r = record {
    accepts = λ j q. r.accepts j (omega arith);
    history = r.history;
    came = r.came;
    places_are = r.places_are ∙ take_all i places h;
  }

  pub reached_in_order : (i : ℕ) (s : OpenSheet L k) → length places ≤ i → Reached n places i start s → Ordered start → FilledInOrder n places s
  reached_in_order i s h r order = record { filled = reached_all i s h r; kept = r.kept order }
