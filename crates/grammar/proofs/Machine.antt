-- A machine that reads a line byte by byte, and the proof that it takes just the texts of records.
-- It serves proofs alone: no contract names it.
use Rattle.std.proofs.Common.{◌≡◌, ℕ, suc, ◌+◌, ◌-◌, ◌*◌, ◌/◌, ◌%◌, ◌<◌, ◌≤◌, Bool, true, false, cond, ◌&&◌, eqb, ltb, leb, List, [], ◌∷◌, ◌++◌, ℤ, pos, negsuc, Some, None, decimal, Option, refl, ap, ◌∙◌, mod-lt, arith, lit<}
use native.Mathlib.Nat.{div-add-mod}
use Rattle.std.proofs.lemmas.Bool.{cond-true, cond-false, ne_eqb, le-leb, lt-ltb, and_from}
use Rattle.std.proofs.lemmas.Bool.Decides.{nat_tests}
use Rattle.std.proofs.lemmas.Fmt.{decimal_by_steps}
use Rattle.grammar.specs.declared.mark.Mark.{Mark}
use Rattle.grammar.specs.declared.mark.Mark.TheVariants.{Steps, Standing, Place, Question}
use Rattle.grammar.specs.Text.{field, Short}
use Rattle.grammar.specs.Reading.{Signed, signs}

-- how far a line is read; of the numbers so far the last comes first
pub data State : Type 0 where
  start : State
  lettered : Mark → State
  resting : Mark → List ℤ → State
  spaced : Mark → List ℤ → State
  minus : Mark → List ℤ → State
  -- byte 10 was read, and what comes after is not looked at
  ended : Mark → List ℤ → State

-- whether another number can follow, and whether the line can end
abbrev pub more : Mark → List ℤ → Bool
more Steps [] = true
more Steps (x ∷ xs) = false
more Standing xs = false
more Place xs = true
more Question xs = true

abbrev pub enough : Mark → List ℤ → Bool
enough Steps [] = false
enough Steps (x ∷ xs) = true
enough Standing xs = true
enough Place xs = true
enough Question xs = true

abbrev pub when : Bool → State → Option State
when t σ = cond t (Some σ) None

abbrev pub is_digit : ℕ → Bool
is_digit b = leb 48 b && leb b 57

-- one digit more for the last number
abbrev pub grown : Mark → List ℤ → ℕ → Option State
grown m [] d = None
grown m (pos v ∷ xs) d = when (ltb 0 v && leb v 999999) (resting m (pos (v * 10 + d) ∷ xs))
grown m (negsuc v ∷ xs) d = when (leb v 999998) (resting m (negsuc (v * 10 + 9 + d) ∷ xs))

abbrev pub step : State → ℕ → Option State
step start b = cond (eqb b 78) (Some (lettered Steps)) (cond (eqb b 83) (Some (lettered Standing)) (cond (eqb b 80) (Some (lettered Place)) (cond (eqb b 81) (Some (lettered Question)) None)))
step (lettered m) b = when (eqb b 58) (resting m [])
step (resting m xs) b = cond (eqb b 32) (when (more m xs) (spaced m xs)) (cond (eqb b 10) (when (enough m xs) (ended m xs)) (cond (is_digit b) (grown m xs (b - 48)) None))
step (spaced m xs) b = cond (is_digit b) (Some (resting m (pos (b - 48) ∷ xs))) (cond (eqb b 45) (when (signs m) (minus m xs)) None)
step (minus m xs) b = cond (is_digit b) (when (ltb 48 b) (resting m (negsuc (b - 49) ∷ xs))) None
step (ended m xs) b = Some (ended m xs)

abbrev pub and_then : Option State → (State → Option State) → Option State
and_then None f = None
and_then (Some σ) f = f σ

abbrev pub goes : List ℕ → State → Option State
goes [] σ = Some σ
goes (b ∷ bs) σ = and_then (step σ b) (goes bs)

pub goes_append : (q t : List ℕ) (σ : State) → goes (q ++ t) σ ≡ and_then (goes q σ) (goes t)
goes_append [] t σ = refl
goes_append (b ∷ q) t σ =
    elim (step σ b) as (λ o. and_then o (goes (q ++ t)) ≡ and_then (and_then o (goes q)) (goes t)) [ None ↦ refl | Some τ ↦ goes_append q t τ ]

pub goes_on : (q t : List ℕ) (σ τ : State) → goes q σ ≡ Some τ → goes (q ++ t) σ ≡ goes t τ
goes_on q t σ τ h = goes_append q t σ ∙ ap (λ o. and_then o (goes t)) h

-- a digit, after a number, a space or a minus
rest_digit : (m : Mark) (xs : List ℤ) (d : ℕ) → d < 10 → step (resting m xs) (48 + d) ≡ grown m xs d
rest_digit m xs d h =
    let dig : is_digit (48 + d) ≡ true = grind (arith, nat_tests) in
    cond-false (eqb (48 + d) 32) _ _ (ne_eqb (48 + d) 32 (λ e. omega arith))
    ∙ cond-false (eqb (48 + d) 10) _ _ (ne_eqb (48 + d) 10 (λ e. omega arith))
    ∙ cond-true (is_digit (48 + d)) _ _ dig
    ∙ ap (grown m xs) (omega arith)

space_digit : (m : Mark) (xs : List ℤ) (d : ℕ) → d < 10 → step (spaced m xs) (48 + d) ≡ Some (resting m (pos d ∷ xs))
space_digit m xs d h =
    let dig : is_digit (48 + d) ≡ true = grind (arith, nat_tests) in
    cond-true (is_digit (48 + d)) _ _ dig ∙ ap (λ v. Some (resting m (pos v ∷ xs))) (omega arith)

minus_digit : (m : Mark) (xs : List ℤ) (d : ℕ) → 0 < d → d < 10 → step (minus m xs) (48 + d) ≡ Some (resting m (negsuc (d - 1) ∷ xs))
minus_digit m xs d some h =
    let dig : is_digit (48 + d) ≡ true = grind (arith, nat_tests) in
    cond-true (is_digit (48 + d)) _ _ dig ∙ cond-true (ltb 48 (48 + d)) _ _ (lt-ltb 48 (48 + d) (omega arith)) ∙ ap (λ v. Some (resting m (negsuc v ∷ xs))) (omega arith)

one_step : (b : ℕ) (σ τ : State) → step σ b ≡ Some τ → goes (b ∷ []) σ ≡ Some τ
one_step b σ τ h = ap (λ o. and_then o (goes [])) h

reads_natural : (m : Mark) (xs : List ℤ) (n : ℕ) → n ≤ 9999999 → goes (decimal n) (spaced m xs) ≡ Some (resting m (pos n ∷ xs))
reads_natural m xs n small =
    decimal_by_steps (λ k ds. k ≤ 9999999 → goes ds (spaced m xs) ≡ Some (resting m (pos k ∷ xs)))
    (λ k h _. one_step (48 + k) (spaced m xs) _ (space_digit m xs k h))
    (λ k ds h before fit.
    let parts = div-add-mod k 10 in
    let digit : k % 10 < 10 = mod-lt k (lit< tt) in
    let grow : grown m (pos (k / 10) ∷ xs) (k % 10) ≡ Some (resting m (pos k ∷ xs)) =
    cond-true _ _ _ (and_from _ _ (lt-ltb 0 (k / 10) (omega arith)) (le-leb (k / 10) 999999 (omega arith))) ∙ ap (λ v. Some (resting m (pos v ∷ xs))) (omega arith)
    in
    goes_on ds ((48 + k % 10) ∷ []) (spaced m xs) _ (before (omega arith)) ∙ one_step (48 + k % 10) (resting m (pos (k / 10) ∷ xs)) _ (rest_digit m (pos (k / 10) ∷ xs) (k % 10) digit ∙ grow))
    n (omega arith) small

reads_negative : (m : Mark) (xs : List ℤ) (n : ℕ) → 0 < n → n ≤ 9999999 → goes (decimal n) (minus m xs) ≡ Some (resting m (negsuc (n - 1) ∷ xs))
reads_negative m xs n some small =
    decimal_by_steps (λ k ds. 0 < k → k ≤ 9999999 → goes ds (minus m xs) ≡ Some (resting m (negsuc (k - 1) ∷ xs)))
    (λ k h some _. one_step (48 + k) (minus m xs) _ (minus_digit m xs k some h))
    (λ k ds h before _ fit.
    let parts = div-add-mod k 10 in
    let digit : k % 10 < 10 = mod-lt k (lit< tt) in
    let grow : grown m (negsuc (k / 10 - 1) ∷ xs) (k % 10) ≡ Some (resting m (negsuc (k - 1) ∷ xs)) =
    cond-true _ _ _ (le-leb (k / 10 - 1) 999998 (omega arith)) ∙ ap (λ v. Some (resting m (negsuc v ∷ xs))) (omega arith)
    in
    goes_on ds ((48 + k % 10) ∷ []) (minus m xs) _ (before (omega arith) (omega arith)) ∙ one_step (48 + k % 10) (resting m (negsuc (k / 10 - 1) ∷ xs)) _ (rest_digit m (negsuc (k / 10 - 1) ∷ xs) (k % 10) digit ∙ grow))
    n (omega arith) some small

pub reads_field : (m : Mark) (xs : List ℤ) (z : ℤ) → more m xs ≡ true → Short z → Signed m z → goes (field z) (resting m xs) ≡ Some (resting m (z ∷ xs))
reads_field m xs (pos n) room small sign = ap (λ t. and_then (when t (spaced m xs)) (goes (decimal n))) room ∙ reads_natural m xs n small
reads_field m xs (negsuc n) room small sign =
    ap (λ t. and_then (when t (spaced m xs)) (goes (45 ∷ decimal (suc n)))) room
    ∙ ap (λ t. and_then (when t (minus m xs)) (goes (decimal (suc n)))) sign
    ∙ reads_negative m xs (suc n) (omega arith) small
    ∙ ap (λ v. Some (resting m (negsuc v ∷ xs))) (omega arith)
