-- What offering a place to a sheet answers and leaves. Assumes nothing.
use Rattle.std.proofs.Common.{◌≡◌, ℕ, ◌<◌, false, List, [], ◌∷◌, ◌++◌, map, length, ℤ, Ok, Err, Result, sym, ap, ◌∙◌, subst, inl, inr, arith}
use Rattle.std.proofs.lemmas.List.{length-map, map-append}
use Rattle.ledger.specs.declared.Ledger.{Ghosts as Kind}
use Rattle.cycle_theory.specs.Nets.{Mem}
use Rattle.inline_list.specs.declared.list.InlineList.{InlineList}
use Rattle.inline_list.specs.Items.{items}
use Rattle.method.specs.declared.fault.PlaceFault.{PlaceFault}
use Rattle.method.specs.declared.fault.PlaceFault.TheVariants.{TooLong, Effect}
use Rattle.method.specs.declared.fault.StepFault.{StepFault}
use Rattle.method.specs.declared.place.Place.{Place}
use Rattle.method.specs.Effects.{some, outside}
use Rattle.method.specs.Places.{effects_of, Checked}
use Rattle.method.specs.Stepping.{Next}
use Rattle.sheet.specs.declared.fault.SheetFault.{SheetFault}
use Rattle.sheet.specs.declared.fault.SheetFault.TheVariants.{PlacesFull}
use Rattle.sheet.specs.declared.sheets.OpenSheet.{OpenSheet}
use Rattle.sheet.specs.Faults.{from_place}
use Rattle.sheet.specs.Held.{effects_in, Holds}
use Rattle.sheet.specs.Verdict.{verdict}
use Rattle.sheet.specs.Sheets.{steps_of, places_of, Offered}
use Rattle.sheet.proofs.Causes.{lifted, told_effect, told_full, told_rows}
use Rattle.sheet.proofs.Held.{made_order, made_answer, made_rows}

-- one place more in the list
pub effects_pushed : {m n : ℕ} (before : InlineList Place m) (after : InlineList Place n) (place : Place) → items after ≡ items before ++ place ∷ [] → effects_in after ≡ effects_in before ++ effects_of place ∷ []
effects_pushed before after place e = ap (λ (l : List Place). map effects_of l) e ∙ map-append effects_of (items before) (place ∷ [])

long_more : (n : ℕ) (A : List (List ℤ)) (p : List ℤ) → ((q : List ℤ) → Mem q A → length q ≡ n) → length p ≡ n → (q : List ℤ) → Mem q (A ++ p ∷ []) → length q ≡ n
long_more n [] p h l q (inl e) = ap (λ (x : List ℤ). length x) e ∙ l
long_more n [] p h l q (inr none) = absurd none
long_more n (a ∷ A) p h l q (inl e) = h q (inl e)
long_more n (a ∷ A) p h l q (inr i) = long_more n A p (λ x j. h x (inr j)) l q i

module _ {L : Type 0} {k : Kind L} (s : OpenSheet L k) (p : List ℤ) (long : length p ≡ steps_of s) where
  -- the effects are no place
  pub told_fault : (fault : PlaceFault) → Checked p (Err fault) → verdict k (steps_of s) (places_of s) p ≡ Err (from_place fault)
  told_fault TooLong h = absurd (omega (arith, long, h, s.steps.few.1))
  told_fault (Effect step) h = rw (h.2) (told_effect k (steps_of s) (places_of s) p long h.1)

  module _ (mild : some outside p ≡ false) where
    -- there are 32 places
    pub told_places : length (items s.places) ≡ 32 → verdict k (steps_of s) (places_of s) p ≡ Err PlacesFull
    told_places full = told_full k (steps_of s) (places_of s) p long mild (let l = length-map (items s.places) effects_of in omega (arith, l, full))

    -- there is room, and the rows with the place were asked for
    pub told_answer :
        length (items s.places) < 32 → (place : Place) → effects_of place ≡ p → (answer : Result (Unit {0}) StepFault) (after : L) →
        Next k (effects_of place) s.current s.spare answer after → verdict k (steps_of s) (places_of s) p ≡ lifted answer
    told_answer room place is answer after next =
        told_rows k (steps_of s) (places_of s) p long mild (let l = length-map (items s.places) effects_of in omega (arith, l, room))
        ∙ sym (ap lifted (made_answer s p after answer
        (subst (λ (q : List ℤ). Next k q s.current s.spare answer after) is next)))

  -- the rows with the place, and the place
  pub holds_more :
      {most : ℕ} (place : Place) → effects_of place ≡ p → (after x : L) → Next k (effects_of place) s.current s.spare (Ok tt) after → x ≡ after →
      (places : InlineList Place most) → items places ≡ items s.places ++ place ∷ [] → Holds k (steps_of s) (effects_in places) x
  holds_more place is after x next same places more =
      subst (λ (A : List (List ℤ)). Holds k (steps_of s) A x) (sym (effects_pushed s.places places place more)) (subst (λ (l : L). Holds k (steps_of s) (places_of s ++ effects_of place ∷ []) l) (sym same) (record {
        order = made_order s (effects_of place) after (Ok tt) next;
        rows = made_rows s (effects_of place) after (Ok tt) next;
        long = long_more (steps_of s) (places_of s) (effects_of place) s.held.long (ap (λ (x : List ℤ). length x) is ∙ long);
      }))

-- refused: the places and the rows are as they were
pub refused_so :
    {L : Type 0} {k : Kind L} (s t : OpenSheet L k) (p : List ℤ) (fault : SheetFault) →
    steps_of t ≡ steps_of s → places_of t ≡ places_of s → t.current ≡ s.current → verdict k (steps_of s) (places_of s) p ≡ Err fault → Offered s p (Err fault) t
refused_so s t p fault steps places current is = record { steps = steps; answered = sym is; places = places; refused = λ _ _. current }
