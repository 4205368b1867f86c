-- The sum in integers is what the place gains less what it loses (sum_said), so the method's step is that of the flows (step_flow).
use Rattle.std.proofs.Common.{◌≡◌, ℕ, suc, ◌+◌, ◌<◌, Bool, eqb, ltb, ◌↔◌, List, [], ◌∷◌, map, pos, negsuc, ◌<ℤ◌, sym, refl, ◌∙◌, subst, inl, inr, arith}
use lib.IntN.{sub_ℕ}
use borrow.Author.Differences.{ints, up, down, same_in, same_out}
use Rattle.cycle_theory.specs.Nets.{Counts, Mem, Place, sum}
use Rattle.cycle_theory.specs.Method.{surplus, deficit, is_zero, is_positive, is_negative, combined, divided, keep, pairs, all_rows, step}
use Rattle.cycle_theory.specs.Flows.{sum_from, dot, flow, gains, losses, Balanced, FlowCycle, pair_row, flow_pairs, flow_rows, flow_step}

-- the sum from step i on, where an index runs along with the effects
difference : (p : Place) (x : Counts) (i : ℕ) → up (sum_from p x i) + dot (map deficit p) x i ≡ down (sum_from p x i) + dot (map surplus p) x i
difference [] x i = refl
difference (pos n ∷ p) x i = omega (arith, ints, difference p x (suc i))
difference (negsuc n ∷ p) x i = omega (arith, ints, difference p x (suc i))

pub sub_parts : (a b : ℕ) → up (sub_ℕ a b) + b ≡ down (sub_ℕ a b) + a
sub_parts a b = grind arith

sum_past : (p : Place) (c : ℕ) (x : Counts) (i : ℕ) → sum_from p (c ∷ x) (suc i) ≡ sum_from p x i
sum_past [] c x i = refl
sum_past (e ∷ p) c x i = grind (arith, sum_past p c x (suc i))

sum_none : (p : Place) (i : ℕ) → sum_from p [] i ≡ pos 0
sum_none [] i = refl
sum_none (pos n ∷ p) i = grind (arith, sum_none p (suc i))
sum_none (negsuc n ∷ p) i = grind (arith, sum_none p (suc i))

-- from step 0 on it is the sum
pub sum_from_start : (p : Place) (x : Counts) → sum_from p x 0 ≡ sum p x
sum_from_start [] x = refl
sum_from_start (e ∷ p) [] = sum_none (e ∷ p) 0
sum_from_start (e ∷ p) (c ∷ x) = grind (arith, sum_from_start p x, sum_past)

-- the sum is the gains less the losses
pub sum_said : (p : Place) (x : Counts) → sum p x ≡ sub_ℕ (gains (flow p) x) (losses (flow p) x)
sum_said p x =
    sym (sum_from_start p x)
    ∙ same_in (sum_from p x 0) (sub_ℕ (gains (flow p) x) (losses (flow p) x))
    (omega (arith, difference p x 0, sub_parts (gains (flow p) x) (losses (flow p) x)))

-- so it is 0 where they are equal
pub balance_said : (p : Place) (x : Counts) → (sum p x ≡ pos 0) ↔ Balanced (flow p) x
balance_said p x = (
  λ e. omega (arith, difference p x 0, same_out (sum_from p x 0) (pos 0) (sum_from_start p x ∙ e)),
  λ b. sym (sum_from_start p x) ∙ same_in (sum_from p x 0) (pos 0) (omega (arith, difference p x 0, b)),
)

pub cycle_said : (places : List Place) (x : Counts) → ((p : Place) → Mem p places → sum p x ≡ pos 0) ↔ FlowCycle (map flow places) x
cycle_said [] x = (λ h. tt, λ c p m. absurd m)
cycle_said (q ∷ places) x = (
  λ h. ((balance_said q x).0 (h q (inl refl)), (cycle_said places x).0 (λ p m. h p (inr m))),
  λ c p m. elim m [
    | inl e ↦ (balance_said p x).1 (subst (λ (d : Place). Balanced (flow d) x) (sym e) c.0)
    | inr m' ↦ (cycle_said places x).1 c.1 p m'
  ],
)

-- a positive sum is a gain above the loss, and a negative sum a loss above the gain
pub gains_said : (p : Place) (x : Counts) → pos 0 <ℤ sum p x → losses (flow p) x < gains (flow p) x
gains_said p x h = grind (arith, sum_said)

pub loses_said : (p : Place) (x : Counts) → sum p x <ℤ pos 0 → gains (flow p) x < losses (flow p) x
loses_said p x h = grind (arith, sum_said)

-- the row of a pair is the same in integers and in flows
pub pair_flow : (p : Place) (u v : Counts) → divided (combined p u v) ≡ pair_row (flow p) u v
pair_flow p u v = grind (arith, sum_said)

-- tests and functions that agree at every row filter and map alike
keep_same : (f g : Counts → Bool) → ((x : Counts) → f x ≡ g x) → (rows : List Counts) → keep f rows ≡ keep g rows
keep_same f g h [] = refl
keep_same f g h (x ∷ rows) = grind arith

pairs_flow : (p : Place) (us vs : List Counts) → pairs p us vs ≡ flow_pairs (flow p) us vs
pairs_flow p [] vs = refl
pairs_flow p (u ∷ us) vs = grind (arith, pairs_flow p us vs, pair_flow)

-- the rows before cleaning are the same
pub rows_flow : (p : Place) (rows : List Counts) → all_rows p rows ≡ flow_rows (flow p) rows
rows_flow p rows =
    let zero-rows = keep_same (λ x. is_zero (sum p x)) (λ x. eqb (gains (flow p) x) (losses (flow p) x)) (λ x. grind (arith, sum_said)) rows in
    let gaining = keep_same (λ u. is_positive (sum p u)) (λ u. ltb (losses (flow p) u) (gains (flow p) u)) (λ u. grind (arith, sum_said)) rows in
    let losing = keep_same (λ v. is_negative (sum p v)) (λ v. ltb (gains (flow p) v) (losses (flow p) v)) (λ v. grind (arith, sum_said)) rows in
    cc (pairs_flow p (keep (λ u. is_positive (sum p u)) rows) (keep (λ v. is_negative (sum p v)) rows))

-- and so are those after it
pub step_flow : (p : Place) (rows : List Counts) → step p rows ≡ flow_step (flow p) rows
step_flow p rows = grind (arith, rows_flow)
