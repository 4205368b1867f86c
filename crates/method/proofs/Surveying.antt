-- One row more in the survey.
use Rattle.std.proofs.Common.{◌≡◌, ℕ, ◌-◌, ◌<◌, ◌≤◌, List, [], ◌∷◌, ◌++◌, length, get_or, ℤ, Result, refl, sym, ap, ◌∙◌, subst, ⊎_elim, arith, length-append}
use Rattle.std.specs.List.{All}
use Rattle.std.proofs.lemmas.Bool.{cases_lt}
use Rattle.std.proofs.lemmas.List.{get_or-append_right, get_or_append_left}
use Rattle.inline_list.specs.declared.Full.{Full}
use Rattle.inline_list.specs.Items.{Pushed}
use Rattle.inline_list.proofs.Pushing.{pushed_with_room}
use Rattle.cycle_theory.specs.Nets.{Counts}
use Rattle.method.specs.declared.reading.Reading.{Reading}
use Rattle.method.specs.Surveys.{Told, Surveyed}

-- the first k rows are read
pub record Front (p : List ℤ) (rows : List Counts) (s : List Reading) : Type 0 where
  pub in_turn : (k : ℕ) (d : Reading) → k < length s → (get_or s k d).row ≡ k
  pub told : All (Told p rows) s

-- there is room
pub pushed_there : (s t : List Reading) (r : Reading) (answer : Result (Unit {0}) Full) → length s < 1024 → Pushed 1024 s r answer t → t ≡ s ++ r ∷ []
pushed_there s t r answer room pushed = pushed_with_room 1024 s r answer t room pushed

module _ (s : List Reading) (r : Reading) (P : ℕ → Reading → Type 0) (before : (k : ℕ) (d : Reading) → k < length s → P k (get_or s k d)) (last : P (length s) r) where
  each_more : (k : ℕ) (d : Reading) → k < length (s ++ r ∷ []) → P k (get_or (s ++ r ∷ []) k d)
  each_more k d l = ⊎_elim
      (λ (h : k < length s). subst (P k) (sym (get_or_append_left s (r ∷ []) d k h)) (before k d h))
      (λ (h : length s ≤ k). let e : length s ≡ k = omega (arith, l, h, length-append s (r ∷ [])) in
      let first : k - length s ≡ 0 = omega (arith, e) in
      let here : get_or (s ++ r ∷ []) k d ≡ r = get_or-append_right s (r ∷ []) (length s) k d refl h ∙ ap (λ n. get_or (r ∷ []) n d) first in
      subst (P k) (sym here) (subst (λ n. P n r) e last))
      (cases_lt k (length s))

pub front_more : (p : List ℤ) (rows : List Counts) (s : List Reading) (r : Reading) → Front p rows s → r.row ≡ length s → Told p rows r → Front p rows (s ++ r ∷ [])
front_more p rows s r front is told = record {
  in_turn = each_more s r (λ k x. x.row ≡ k) front.in_turn is;
  told = each_more s r (λ k x. Told p rows x) front.told told;
}

-- the reading at k is that of row k
module _ (p : List ℤ) (rows : List Counts) (s : List Reading) (k : ℕ) (r : Reading) (surveyed : Surveyed p rows s) (inside : k < length s) (is : r ≡ get_or s k r) where
  pub told_here : Told p rows r
  told_here = subst (Told p rows) (sym is) (surveyed.told k r inside)

  pub row_here : r.row ≡ k
  row_here = ap (λ (x : Reading). x.row) is ∙ surveyed.in_turn k r inside
