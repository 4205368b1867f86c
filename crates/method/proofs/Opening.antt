-- The unit rows, 24 wide, one before another.
use Rattle.std.proofs.Common.{◌≡◌, ℕ, zero, suc, ◌+◌, ◌<◌, ◌≤◌, ◌≢◌, List, ◌∷◌, length, replicate, Ok, Err, sum_by, Result, sym, refl, ap, ◌∙◌, subst, ⊎_elim, add-one, arith, length-set, get_or-set_other, get_or-set_same, ext_get_or}
use Rattle.std.proofs.lemmas.List.{get_or-replicate}
use Rattle.std.proofs.lemmas.List.Sums.{sum_by-cons, sum_by-insert}
use Rattle.std.proofs.lemmas.Bool.{cases_eq}
use Rattle.cycle_theory.specs.Nets.{Counts, at}
use Rattle.cycle_theory.specs.Method.{delta, unit, units_to}
use Rattle.cycle_theory.proofs.Rows.{length_tabulate, at_tabulate_all}
use Rattle.ledger.specs.declared.fault.LedgerFault.{LedgerFault}
use Rattle.ledger.specs.Rows as ledger
use Rattle.ledger.specs.Calls.{Inserts}
use Rattle.ledger.proofs.Units.{units_more, units_fit, unit_small, not_refused}
use Rattle.method.specs.Stepping.{wide, written}
use Rattle.method.proofs.Widening.{at_wide, length_wide}

delta_same : (k : ℕ) → delta k k ≡ 1
delta_same zero = refl
delta_same (suc k) = delta_same k

delta_other : (k j : ℕ) → j ≢ k → delta k j ≡ 0
delta_other zero zero ne = absurd (ne refl)
delta_other zero (suc j) ne = refl
delta_other (suc k) zero ne = refl
delta_other (suc k) (suc j) ne = delta_other k j (λ e. ne (ap suc e))

module _ (n k : ℕ) (few : n ≤ 24) (h : k < n) where
  at_unit : (j : ℕ) → at (wide (unit n k)) j ≡ delta k j
  at_unit j = at_wide (unit n k) j ∙ at_tabulate_all n (delta k) (λ i q. delta_other k i (let ne : i ≢ k = omega (arith, q, h) in ne)) j

  at_set : (j : ℕ) → j < 24 → at (ledger.unit k) j ≡ delta k j
  at_set j q = ⊎_elim
      (λ (e : j ≡ k). subst (λ (i : ℕ). at (ledger.unit k) i ≡ delta k i) (sym e)
      (get_or-set_same (replicate 24 0) k 1 0 (omega (arith, h, few)) ∙ sym (delta_same k)))
      (λ ne. get_or-set_other (replicate 24 0) k j 1 0 ne ∙ get_or-replicate 24 j 0 0 q ∙ sym (delta_other k j ne))
      (cases_eq j k)

  -- a ledger's unit row is the method's, written wide
  unit_wide : ledger.unit k ≡ wide (unit n k)
  unit_wide =
      let l : length (ledger.unit k) ≡ 24 = length-set (replicate 24 0) k 1 in
      let m = length_tabulate n (delta k) in
      ext_get_or 0 (ledger.unit k) (wide (unit n k)) (l ∙ sym (length_wide (unit n k) (omega (arith, m, few))))
      (λ j q. at_set j (omega (arith, l, q)) ∙ sym (at_unit j))

units_sum : (charge : List ℕ → ℕ) (n : ℕ) → n ≤ 24 → (m : ℕ) → m ≤ n → sum_by charge (written (units_to n m)) ≡ sum_by charge (ledger.units m)
units_sum charge n few zero h = refl
units_sum charge n few (suc m) h =
    let a = sum_by-cons charge (wide (unit n m)) (written (units_to n m)) in
    let r = units_sum charge n few m (omega (arith, h)) in
    let e : charge (ledger.unit m) ≡ charge (wide (unit n m)) = ap charge (unit_wide n m few h) in
    let s = sum_by-insert charge (ledger.units m) m (ledger.unit m) in
    let t : sum_by charge (ledger.units (m + 1)) ≡ sum_by charge (ledger.units (suc m)) = ap (λ (i : ℕ). sum_by charge (ledger.units i)) (add-one m) in
    let u = ap (sum_by charge) (units_more m) in
    omega (arith, a, r, e, s, t, u)

-- one unit row more, before the others
module _ (charge : List ℕ → ℕ) (total n k : ℕ) (few : n ≤ 24) (h : k < n) (room : sum_by charge (ledger.units 24) ≤ total) (was is : List Counts) (before : was ≡ written (units_to n k)) where
  pub unit_more : (r : Result (Unit {0}) LedgerFault) → Inserts charge total was 1 (ledger.unit k) is r → is ≡ written (units_to n (k + 1))
  unit_more (Ok _) (place, small, fits, e) =
      e
      ∙ ap (λ (l : List Counts). ledger.unit k ∷ l) before
      ∙ ap (λ (x : Counts). x ∷ written (units_to n k)) (unit_wide n k few h)
      ∙ ap (λ (i : ℕ). written (units_to n i)) (sym (add-one k))
  unit_more (Err e) refused =
      let s = units_sum charge n few k (omega (arith, h)) in
      let b : sum_by charge was ≡ sum_by charge (written (units_to n k)) = ap (sum_by charge) before in
      let f = units_fit charge total k room (omega (arith, h, few)) in
      absurd (not_refused charge total was 1 (ledger.unit k) is e (omega arith, omega arith) (unit_small k) (omega (arith, s, b, f)) refused)
