-- A question's outcome depends on the counts alone, not on zeros behind them: `same_walk` and `same_unbroken`.
use Rattle.std.proofs.Common.{◌≡◌, ℕ, zero, suc, ◌+◌, ◌*◌, Bool, false, cond, eqb, ltb, List, [], ◌∷◌, length, get_or, sym, refl, ap, ◌∙◌, arith}
use Rattle.std.proofs.lemmas.Bool.{cond-false, le-ltb}
use Rattle.cycle_theory.specs.Nets.{Counts, at, Place, sum}
use Rattle.cycle_theory.specs.Method.{within}
use Rattle.cycle_theory.specs.Flows.{sum_from}
use Rattle.cycle_theory.specs.Walk.{Ratio, least_to, lowest, least_ratio, first_within, in_use, zeros, small, Walk, chosen, round, fits, Outcome, certified, too_large, stuck, walk_from, walk, unbroken}
use Rattle.cycle_theory.proofs.Rows.{at_past}
use Rattle.cycle_theory.proofs.Supports.{within_true, true_within}
use Rattle.cycle_theory.proofs.Integers.{sum_from_start}
use Rattle.cycle_theory.proofs.WalkingTests.{zeros_from, zeros_at, small_from, small_at}
use Rattle.cycle_theory.proofs.WalkingRounds.{at_left}

-- the same count at every step
abbrev pub Same : Counts → Counts → Type 0
Same u v = (j : ℕ) → at u j ≡ at v j

-- row by row
abbrev pub SameRows : List Counts → List Counts → Type 0
SameRows [] [] = Unit {0}
SameRows (u ∷ us) (v ∷ vs) = Same u v × SameRows us vs
SameRows us vs = ⊥

same_zeros : (u v : Counts) → Same u v → zeros u ≡ zeros v
same_zeros u v e = grind (arith, zeros_from, zeros_at)

same_small : (u v : Counts) → Same u v → small u ≡ small v
same_small u v e = grind (arith, small_from, small_at)

same_within : (u u' v v' : Counts) → Same u u' → Same v v' → within u v ≡ within u' v'
same_within u u' v v' e f = grind (arith, true_within, within_true)

same_first : (rows rows' : List Counts) (v v' : Counts) → SameRows rows rows' → Same v v' → first_within v rows ≡ first_within v' rows'
same_first [] [] v v' s f = refl
same_first (u ∷ us) (u' ∷ us') v v' s f = grind (arith, same_first us us' v v' s.1 f, same_within)
same_first rows rows' v v' s f = absurd s

same_row : (rows rows' : List Counts) (k : ℕ) → SameRows rows rows' → Same (get_or rows k []) (get_or rows' k [])
same_row [] [] k s j = refl
same_row (u ∷ us) (u' ∷ us') zero s j = s.0 j
same_row (u ∷ us) (u' ∷ us') (suc k) s j = same_row us us' k s.1 j
same_row rows rows' k s j = absurd s

pub same_length : (rows rows' : List Counts) → SameRows rows rows' → length rows ≡ length rows'
same_length [] [] s = refl
same_length (u ∷ us) (u' ∷ us') s = ap suc (same_length us us' s.1)
same_length rows rows' s = absurd s

-- the least ratio
same_least : (n : ℕ) (row row' rest rest' : Counts) → Same row row' → Same rest rest' → least_to n row rest ≡ least_to n row' rest'
unfolding least_to
same_least zero row row' rest rest' e f = refl
same_least (suc n) row row' rest rest' e f = grind (arith, same_least n row row' rest rest' e f)

least_past : (m : ℕ) (row rest : Counts) → least_to (m + length row) row rest ≡ least_to (length row) row rest
unfolding least_to
least_past zero row rest = ap (λ (n : ℕ). least_to n row rest) (omega arith)
least_past (suc m) row rest =
    let e : suc m + length row ≡ suc (m + length row) = omega arith in
    let b : Ratio = least_to (m + length row) row rest in
    let z : at row (m + length row) ≡ 0 = at_past row (m + length row) (omega arith) in
    let test : ltb (at rest (m + length row) * b.bottom) (b.top * at row (m + length row)) ≡ false =
    le-ltb (at rest (m + length row) * b.bottom) (b.top * at row (m + length row)) (omega (arith, ap (λ (c : ℕ). b.top * c) z)) in
    ap (λ (n : ℕ). least_to n row rest) e
    ∙ cond-false (ltb (at rest (m + length row) * b.bottom) (b.top * at row (m + length row))) (record { top = at rest (m + length row); bottom = at row (m + length row) }) b test
    ∙ least_past m row rest

same_ratio : (row row' rest rest' : Counts) → Same row row' → Same rest rest' → least_ratio row rest ≡ least_ratio row' rest'
same_ratio row row' rest rest' e f = ap lowest (
    sym (least_past (length row') row rest)
    ∙ ap (λ (n : ℕ). least_to n row rest) (omega arith)
    ∙ same_least (length row + length row') row row' rest rest' e f
    ∙ least_past (length row) row' rest'
    )

-- a walk
pub record SameWalk (w v : Walk) : Type 0 where
  pub rest : Same w.rest v.rest
  pub multiplier : w.multiplier ≡ v.multiplier
  pub coefficients : w.coefficients ≡ v.coefficients

module _ (rows rows' : List Counts) (s : SameRows rows rows') (w v : Walk) (e : SameWalk w v) where
  choice : first_within w.rest rows ≡ first_within v.rest rows'
  choice = same_first rows rows' w.rest v.rest s e.rest

  row_same : Same (chosen rows w) (chosen rows' v)
  row_same j = grind (arith, choice, same_row)

  ratio_same : least_ratio (chosen rows w) w.rest ≡ least_ratio (chosen rows' v) v.rest
  ratio_same = grind (arith, same_ratio, row_same)

  round_same : SameWalk (round rows w) (round rows' v)
  round_same = grind (arith, ratio_same, at_left, row_same, choice)

same_fits : (w v : Walk) → SameWalk w v → fits w ≡ fits v
same_fits w v e = grind (arith, same_small)

same_certified : (w v : Walk) → SameWalk w v → certified w.multiplier w.coefficients ≡ certified v.multiplier v.coefficients
same_certified w v e = grind arith

same_from : (k : ℕ) (rows rows' : List Counts) → SameRows rows rows' → (w v : Walk) → SameWalk w v → walk_from k rows w ≡ walk_from k rows' v
unfolding walk_from
same_from zero rows rows' s w v e = grind (arith, same_zeros)
same_from (suc k) rows rows' s w v e =
    let r : SameWalk (round rows w) (round rows' v) = round_same rows rows' s w v e in
    let on : Outcome = cond (fits (round rows w)) (walk_from k rows (round rows w)) too_large in
    let on' : Outcome = cond (fits (round rows' v)) (walk_from k rows' (round rows' v)) too_large in
    let go : on ≡ on' =
    ap (λ (b : Bool). cond b (walk_from k rows (round rows w)) too_large) (same_fits (round rows w) (round rows' v) r)
    ∙ ap (λ (o : Outcome). cond (fits (round rows' v)) o too_large) (same_from k rows rows' s (round rows w) (round rows' v) r) in
    ap (λ (b : Bool). cond b (certified w.multiplier w.coefficients) (cond (eqb (least_ratio (chosen rows w) w.rest).bottom 0) stuck on)) (same_zeros w.rest v.rest e.rest)
    ∙ ap (λ (o : Outcome). cond (zeros v.rest) o (cond (eqb (least_ratio (chosen rows w) w.rest).bottom 0) stuck on)) (same_certified w v e)
    ∙ ap (λ (q : Ratio). cond (zeros v.rest) (certified v.multiplier v.coefficients) (cond (eqb q.bottom 0) stuck on)) (ratio_same rows rows' s w v e)
    ∙ ap (λ (o : Outcome). cond (zeros v.rest) (certified v.multiplier v.coefficients) (cond (eqb (least_ratio (chosen rows' v) v.rest).bottom 0) stuck o)) go

pub same_walk : (rows rows' : List Counts) → SameRows rows rows' → (x x' : Counts) → Same x x' → in_use x ≡ in_use x' → walk rows x ≡ walk rows' x'
same_walk rows rows' s x x' e u = grind (arith, same_from, same_length)

-- sums on places
same_sum_from : (p : Place) (x x' : Counts) (i : ℕ) → Same x x' → sum_from p x i ≡ sum_from p x' i
same_sum_from [] x x' i e = refl
same_sum_from (f ∷ p) x x' i e = grind (arith, same_sum_from p x x' (suc i) e)

pub same_sum : (p : Place) (x x' : Counts) → Same x x' → sum p x ≡ sum p x'
same_sum p x x' e = sym (sum_from_start p x) ∙ same_sum_from p x x' 0 e ∙ sum_from_start p x'

pub same_unbroken : (places : List Place) (x x' : Counts) → Same x x' → unbroken places x ≡ unbroken places x'
same_unbroken [] x x' e = refl
same_unbroken (p ∷ places) x x' e = grind (arith, same_sum)
