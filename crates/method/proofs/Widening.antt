-- Rows of n counts as a ledger holds them, 24 wide: they stand as the rows do, and a step of them is the step of the rows, written wide.
use Rattle.std.proofs.Common.{◌≡◌, ℕ, zero, suc, ◌+◌, ◌-◌, ◌*◌, ◌<◌, ◌≤◌, List, [], ◌∷◌, ◌++◌, length, replicate, sym, refl, ap, ◌∙◌, subst, inl, inr, ⊎_elim, arith, length-append}
use lib.ListN.{length-replicate}
use Rattle.std.proofs.lemmas.Bool.{cases_lt}
use Rattle.cycle_theory.specs.Nets.{Counts, at, Mem, Within, Before, Ascending, Place}
use Rattle.cycle_theory.specs.Method.{tabulate, step}
use Rattle.cycle_theory.specs.Flows.{Flow, flow, Factor, dot, FlowCycle, Candidate, Cover, flow_step}
use Rattle.cycle_theory.proofs.Rows.{at_past, length_tabulate, at_tabulate_all}
use Rattle.cycle_theory.proofs.Members.{mem_map, map_mem}
use Rattle.cycle_theory.proofs.Ascending.{determined}
use Rattle.cycle_theory.proofs.Minimals.{same_cycles}
use Rattle.cycle_theory.proofs.Steps.{stepped}
use Rattle.cycle_theory.proofs.Integers.{step_flow}
use Rattle.method.specs.Stepping.{wide, written}

at_zeros : (m j : ℕ) → at (replicate m 0) j ≡ 0
at_zeros zero j = refl
at_zeros (suc m) zero = refl
at_zeros (suc m) (suc j) = at_zeros m j

at_front : (x : Counts) (m j : ℕ) → at (x ++ replicate m 0) j ≡ at x j
at_front [] m j = at_zeros m j
at_front (c ∷ x) m zero = refl
at_front (c ∷ x) m (suc j) = at_front x m j

pub at_wide : (x : Counts) (j : ℕ) → at (wide x) j ≡ at x j
at_wide x j = at_front x (24 - length x) j

pub length_wide : (x : Counts) → length x ≤ 24 → length (wide x) ≡ 24
length_wide x few = length-append x (replicate (24 - length x) 0) ∙ (let z = length-replicate {A = ℕ} (24 - length x) 0 in omega (arith, z))

before_front : (x y a b : Counts) → length x ≡ length y → Before x y → Before (x ++ a) (y ++ b)
before_front [] [] a b l h = absurd h
before_front [] (d ∷ y) a b l h = absurd (let f : ⊥ = omega (arith, l) in f)
before_front (c ∷ x) [] a b l h = absurd h
before_front (c ∷ x) (d ∷ y) a b l (inl p) = inl p
before_front (c ∷ x) (d ∷ y) a b l (inr p) = inr (p.0, before_front x y a b (omega (arith, l)) p.1)

dot_same : (gs : List ℕ) (x y : Counts) → ((j : ℕ) → at x j ≡ at y j) → (i : ℕ) → dot gs x i ≡ dot gs y i
dot_same [] x y same i = refl
dot_same (g ∷ gs) x y same i =
    let r = dot_same gs x y same (suc i) in
    let k : g * at x i ≡ g * at y i = ap (λ (m : ℕ). g * m) (same i) in
    omega (arith, r, k)

cycle_same : (A : List Flow) (x y : Counts) → ((j : ℕ) → at x j ≡ at y j) → FlowCycle A x → FlowCycle A y
cycle_same [] x y same c = tt
cycle_same (f ∷ A) x y same c = (sym (dot_same f.gain x y same 0) ∙ c.0 ∙ dot_same f.loss x y same 0, cycle_same A x y same c.1)

cycle_both : (A B : List Flow) (x : Counts) → FlowCycle A x → FlowCycle B x → FlowCycle (A ++ B) x
cycle_both [] B x a b = b
cycle_both (f ∷ A) B x a b = (a.0, cycle_both A B x a.1 b)

cycle_first : (A B : List Flow) (x : Counts) → FlowCycle (A ++ B) x → FlowCycle A x
cycle_first [] B x c = tt
cycle_first (f ∷ A) B x c = (c.0, cycle_first A B x c.1)

cycle_rest : (A B : List Flow) (x : Counts) → FlowCycle (A ++ B) x → FlowCycle B x
cycle_rest [] B x c = c
cycle_rest (f ∷ A) B x c = cycle_rest A B x c.1

-- 1 at step j, and nothing past it
abbrev spike : ℕ → List ℕ
spike zero = 1 ∷ []
spike (suc j) = 0 ∷ spike j

-- k places that hold the counts from step n on at 0
abbrev pub caps : ℕ → ℕ → List Flow
caps n zero = []
caps n (suc k) = record { gain = spike n; loss = [] } ∷ caps (suc n) k

dot_spike : (j : ℕ) (x : Counts) (i : ℕ) → dot (spike j) x i ≡ at x (i + j)
dot_spike zero x i = let e : at x i ≡ at x (i + 0) = ap (at x) (omega arith) in omega (arith, e)
dot_spike (suc j) x i =
    let r = dot_spike j x (suc i) in
    let k : suc i + j ≡ i + suc j = omega arith in
    let e : at x (suc i + j) ≡ at x (i + suc j) = ap (at x) k in
    omega (arith, r, e)

zeros_capped : (n k : ℕ) (x : Counts) → ((j : ℕ) → n ≤ j → at x j ≡ 0) → FlowCycle (caps n k) x
zeros_capped n zero x z = tt
zeros_capped n (suc k) x z =
    let e : at x (0 + n) ≡ at x n = ap (at x) (omega arith) in
    (dot_spike n x 0 ∙ e ∙ z n (omega arith), zeros_capped (suc n) k x (λ j h. z j (omega (arith, h))))

capped_zeros : (n k : ℕ) (x : Counts) → FlowCycle (caps n k) x → (j : ℕ) → n ≤ j → j < n + k → at x j ≡ 0
capped_zeros n zero x c j h l = absurd (let f : ⊥ = omega (arith, h, l) in f)
capped_zeros n (suc k) x c j h l = ⊎_elim
    (λ (q : n < j). capped_zeros (suc n) k x c.1 j q (omega (arith, l)))
    (λ (q : j ≤ n).
    let e : 0 + n ≡ j = omega (arith, h, q) in
    subst (λ (m : ℕ). at x m ≡ 0) e (sym (dot_spike n x 0) ∙ c.0))
    (cases_lt n j)

pub ascending_wide : (n : ℕ) (R : List Counts) → ((w : Counts) → Mem w R → length w ≡ n) → Ascending R → Ascending (written R)
ascending_wide n [] long a = tt
ascending_wide n (x ∷ R) long a = (
  (λ w m.
      let r = mem_map wide w R m in
      subst (λ (z : Counts). Before (wide x) z) (sym r.2) (before_front x r.0 _ _ (long x (inl refl) ∙ sym (long r.0 (inr r.1))) (a.0 r.0 r.1))),
  ascending_wide n R (λ w m. long w (inr m)) a.1,
)

module _ (n : ℕ) (few : n ≤ 24) (A : List Flow) (R : List Counts) (cover : Cover n A R) where
  candidate_wide : (x : Counts) → Mem x R → Candidate 24 (A ++ caps n (24 - n)) (wide x)
  candidate_wide x m =
      let g = cover.good x m in
      let l = g.long in
      record {
        long = length_wide x (omega (arith, l, few));
        cycle = cycle_both A (caps n (24 - n)) (wide x) (cycle_same A x (wide x) (λ j. sym (at_wide x j)) g.cycle)
            (zeros_capped n (24 - n) (wide x) (λ j h. at_wide x j ∙ at_past x j (omega (arith, l, h))));
        nonzero = (g.nonzero.0, subst (λ (k : ℕ). 0 < k) (sym (at_wide x g.nonzero.0)) g.nonzero.1);
        primitive = λ d h. g.primitive d (λ j. subst (Factor d) (at_wide x j) (h j));
      }

  within_narrow : (x y : Counts) → Within (wide x) (wide y) → Within x y
  within_narrow x y b j h = subst (λ (k : ℕ). 0 < k) (at_wide y j) (b j (subst (λ (k : ℕ). 0 < k) (sym (at_wide x j)) h))

  pub cover_wide : Cover 24 (A ++ caps n (24 - n)) (written R)
  cover_wide = record {
    good = λ w m. let r = mem_map wide w R m in subst (Candidate 24 (A ++ caps n (24 - n))) (sym r.2) (candidate_wide r.0 r.1);
    apart = λ w v mw mv b.
        let r = mem_map wide w R mw in
        let s = mem_map wide v R mv in
        let b' = subst (λ (z : Counts). Within (wide r.0) z) s.2 (subst (λ (z : Counts). Within z v) r.2 b) in
        r.2 ∙ ap wide (cover.apart r.0 s.0 r.1 s.1 (within_narrow r.0 s.0 b')) ∙ sym s.2;
    covers = λ x lx c nz.
        let past : (j : ℕ) → n ≤ j → at x j ≡ 0 = λ j h. ⊎_elim
        (λ (q : j < 24). capped_zeros n (24 - n) x (cycle_rest A (caps n (24 - n)) x c) j h (omega (arith, q, few)))
        (λ (q : 24 ≤ j). at_past x j (omega (arith, q, lx)))
        (cases_lt j 24) in
        let y : Counts = tabulate n (at x) in
        let same : (j : ℕ) → at y j ≡ at x j = at_tabulate_all n (at x) past in
        let r = cover.covers y (length_tabulate n (at x)) (cycle_same A x y (λ j. sym (same j)) (cycle_first A (caps n (24 - n)) x c)) (nz.0, subst (λ (k : ℕ). 0 < k) (sym (same nz.0)) nz.1) in
        (wide r.0, map_mem wide r.0 R r.1, λ j h. subst (λ (k : ℕ). 0 < k) (same j) (r.2 j (subst (λ (k : ℕ). 0 < k) (at_wide r.0 j) h)));
  }

-- the step of the wide rows
pub step_wide : (n : ℕ) → n ≤ 24 → (A : List Flow) (R : List Counts) → Cover n A R → (p : Place) → step p (written R) ≡ written (step p R)
step_wide n few A R cover p =
    let f = flow p in
    let s = stepped n A R cover f in
    let t = stepped 24 (A ++ caps n (24 - n)) (written R) (cover_wide n few A R cover) f in
    step_flow p (written R)
    ∙ determined (flow_step f (written R)) (written (flow_step f R)) t.1 (ascending_wide n (flow_step f R) (λ w m. (s.0.good w m).long) s.1)
    (same_cycles 24 (f ∷ (A ++ caps n (24 - n))) (f ∷ (A ++ caps n (24 - n))) (flow_step f (written R)) (written (flow_step f R)) t.0 (cover_wide n few (f ∷ A) (flow_step f R) s.0) (λ x l. ((λ c. c), (λ c. c))))
    ∙ ap written (sym (step_flow p R))
