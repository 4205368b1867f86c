-- The single steps cover the cycles of no place, and are ascending (units_cover).
use Rattle.std.proofs.Common.{◌≡◌, ℕ, zero, suc, ◌<◌, ◌≤◌, [], sym, refl, ap, ◌∙◌, subst, inl, inr, le_of_suc-le-suc, not-suc-le-zero, eq-or-lt_of_le, arith}
use Rattle.cycle_theory.proofs.Divisors.{one_of_product}
use Rattle.cycle_theory.specs.Nets.{Counts, at, Mem, Within, Before, Ascending}
use Rattle.cycle_theory.specs.Method.{delta, unit, units_to, units}
use Rattle.cycle_theory.specs.Flows.{Candidate, Cover}
use Rattle.cycle_theory.proofs.Rows.{split, at_past, length_tabulate, at_tabulate_all}

delta_self : (i : ℕ) → delta i i ≡ 1
delta_self zero = refl
delta_self (suc i) = delta_self i

delta_pos : (i j : ℕ) → 0 < delta i j → i ≡ j
delta_pos zero zero h = refl
delta_pos (suc i) (suc j) h = ap suc (delta_pos i j h)
delta_pos i j h = absurd (omega arith)

-- a unit counts its step once, and no other
unit_at : (n i : ℕ) → i < n → (j : ℕ) → at (unit n i) j ≡ delta i j
unit_at n i h = grind (arith, at_tabulate_all, delta_pos)

mem_units : (n k : ℕ) (w : Counts) → k ≤ n → Mem w (units_to n k) → (i : ℕ) × (i < n) × (w ≡ unit n i)
mem_units n zero w l m = absurd m
mem_units n (suc k) w l (inl e) = (k, l, e)
mem_units n (suc k) w l (inr m) = mem_units n k w (omega arith) m

units_mem : (n k i : ℕ) → i < k → Mem (unit n i) (units_to n k)
units_mem n zero i h = absurd (not-suc-le-zero h)
units_mem n (suc k) i h = elim (eq-or-lt_of_le (le_of_suc-le-suc h)) [
  | inl e ↦ inl (ap (unit n) e)
  | inr lt ↦ inr (units_mem n k i lt)
]

unit_good : (n i : ℕ) → i < n → Candidate n [] (unit n i)
unit_good n i h =
    let one : at (unit n i) i ≡ 1 = unit_at n i h i ∙ delta_self i in
    record {
      long = length_tabulate n (delta i);
      cycle = tt;
      nonzero = (i, omega arith);
      primitive = λ d f. one_of_product d (f i).0 (sym (f i).1 ∙ one);
    }

unit_below : (n i : ℕ) (x : Counts) → i < n → 0 < at x i → Within (unit n i) x
unit_below n i x h p j q = grind (arith, delta_pos, unit_at)

-- every count list is a cycle of no place, and has the unit of a step that it uses within it
pub unit_rows_cover : (n : ℕ) → Cover n [] (units_to n n)
unit_rows_cover n = record {
  good = λ w m.
      let t : (i : ℕ) × (i < n) × (w ≡ unit n i) = mem_units n n w (omega arith) m in
      subst (λ (x : Counts). Candidate n [] x) (sym t.2) (unit_good n t.0 t.1);
  apart = λ w v mw mv b.
      let s : (i : ℕ) × (i < n) × (w ≡ unit n i) = mem_units n n w (omega arith) mw in
      let t : (i : ℕ) × (i < n) × (v ≡ unit n i) = mem_units n n v (omega arith) mv in
      let p : 0 < at w s.0 = omega (arith, ap (λ (x : Counts). at x s.0) s.2, unit_at n s.0 s.1 s.0, delta_self s.0) in
      let e : t.0 ≡ s.0 = delta_pos t.0 s.0 (omega (arith, b s.0 p, ap (λ (x : Counts). at x s.0) t.2, unit_at n t.0 t.1 s.0)) in
      s.2 ∙ ap (unit n) (sym e) ∙ sym t.2;
  covers = λ x lx cx nx.
      let h : nx.0 < n = elim (split n nx.0) [ inr lt ↦ lt | inl le ↦ omega (arith, nx.1, at_past x nx.0 (omega arith)) ] in
      (unit n nx.0, units_mem n n nx.0 h, unit_below n nx.0 x h nx.1);
}

-- the unit of a later step comes first
unit_less : (n k i : ℕ) → i < k → k < n → Before (unit n k) (unit n i)
unit_less (suc n) (suc k) zero h l = inl (omega arith)
unit_less (suc n) (suc k) (suc i) h l = inr (refl, unit_less n k i (le_of_suc-le-suc h) (le_of_suc-le-suc l))
unit_less n k i h l = absurd (omega arith)

mem_units_below : (n k : ℕ) (w : Counts) → Mem w (units_to n k) → (i : ℕ) × (i < k) × (w ≡ unit n i)
mem_units_below n zero w m = absurd m
mem_units_below n (suc k) w (inl e) = (k, omega arith, e)
mem_units_below n (suc k) w (inr m) = grind (arith, mem_units_below n k w m)

pub unit_rows_ascend : (n k : ℕ) → k ≤ n → Ascending (units_to n k)
unit_rows_ascend n zero l = tt
unit_rows_ascend n (suc k) l = (
  λ y m.
      let t : (i : ℕ) × (i < k) × (y ≡ unit n i) = mem_units_below n k y m in
      subst (λ (x : Counts). Before (unit n k) x) (sym t.2) (unit_less n k t.0 t.1 l),
  unit_rows_ascend n k (omega arith),
)

pub units_cover : (n : ℕ) → Cover n [] (units n) × Ascending (units n)
units_cover n = (unit_rows_cover n, unit_rows_ascend n n (omega arith))
