-- The first place whose sum is not 0, by its position. Assumes nothing.
use Rattle.std.proofs.Common.{◌≡◌, ℕ, ◌+◌, Bool, cond, not, List, [], ◌∷◌, map, length, Some, None, Option, option_map, position, sym, refl, ap, ◌∙◌, subst, inl, inr, arith}
use Rattle.std.specs.List.{position_or_len}
use Rattle.std.proofs.lemmas.List.{length-map}
use Rattle.std.proofs.lemmas.Bool.{cases_Bool, cases_lt, lt-ltb, le-ltb}
use Rattle.cycle_theory.specs.Nets.{Counts, sum}
use Rattle.cycle_theory.specs.Method.{is_zero}
use Rattle.cycle_theory.specs.Walk.{unbroken}
use Rattle.method.specs.declared.place.Place.{Place}
use Rattle.method.specs.Places.{effects_of}
use Rattle.sheet.specs.Asking.{Breaks}

-- the place is broken by the counts
abbrev pub fails : Counts → Place → Bool
fails x place = not (is_zero (sum (effects_of place) x))

first_is : (x : Counts) (places : List Place) → position_or_len (fails x) places ≡ unbroken (map effects_of places) x
first_is x [] = refl
first_is x (p ∷ places) = elim (cases_Bool (is_zero (sum (effects_of p) x))) [
  | inl t ↦ rw t (ap (λ n. 1 + n) (first_is x places))
  | inr f ↦ rw f refl
]

-- the place is told from 1
pub told_from_one : (x : Counts) (places : List Place) (r told : Option ℕ) → r ≡ position (fails x) places → told ≡ option_map (λ i. i + 1) r → Breaks (map effects_of places) x told
told_from_one x places r told is next =
    let first = first_is x places in
    let many = length-map places effects_of in
    elim (cases_lt (position_or_len (fails x) places) (length places)) [
      | inl l ↦
          let at : told ≡ Some (position_or_len (fails x) places + 1) =
          next ∙ ap (option_map (λ i. i + 1)) (is ∙ ap (λ b. cond b (Some (position_or_len (fails x) places)) None) (lt-ltb _ _ l)) in
          subst (Breaks (map effects_of places) x) (sym at) (omega (arith, first, many, l), omega (arith, first))
      | inr l ↦
          let at : told ≡ None = next ∙ ap (option_map (λ i. i + 1)) (is ∙ ap (λ b. cond b (Some (position_or_len (fails x) places)) None) (le-ltb _ _ l)) in
          subst (Breaks (map effects_of places) x) (sym at) (omega (arith, first, many, l))
    ]
