-- The walk: every cycle is taken apart, row by row (walk_induction), so that a multiple of it is a sum of rows (decompose).
use Rattle.std.proofs.Common.{◌≡◌, ℕ, zero, suc, ◌+◌, ◌*◌, ◌<◌, List, [], ◌∷◌, length, refl, ap, subst, inl, inr, not-suc-le-zero, mul-pos, arith}
use Rattle.cycle_theory.specs.Nets.{Counts, at, Mem, Within}
use Rattle.cycle_theory.specs.Theorems.{mixed}
use Rattle.cycle_theory.specs.Flows.{Flow, FlowCycle, Candidate, Cover, Reaches}
use Rattle.cycle_theory.proofs.Rows.{zeros?}
use Rattle.cycle_theory.proofs.Supports.{steps_in_use}
use Rattle.cycle_theory.proofs.Balance.{cycle_part, cycle_whole, zeros_balance}
use Rattle.cycle_theory.proofs.Ratios.{Lower, lower}

pub cover_reaches : (n : ℕ) (A : List Flow) (R : List Counts) → Cover n A R → Reaches n A R
cover_reaches n A R i = record { good = i.good; covers = i.covers }

-- what holds of zeros, and of a cycle when it holds of the rest after one row was taken away, holds of every cycle
pub walk_induction :
    (n : ℕ) (A : List Flow) (R : List Counts) → Reaches n A R → (P : Counts → Type 0) →
    ((y : Counts) → length y ≡ n → ((j : ℕ) → at y j ≡ 0) → P y) →
    ((y : Counts) → length y ≡ n → FlowCycle A y → (w : Counts) → Mem w R → Within w y → (l : Lower n w y) → P l.rest → P y) →
    (k : ℕ) (y : Counts) → steps_in_use n (at y) < k → length y ≡ n → FlowCycle A y → P y
walk_induction n A R c P none more zero y h ly cy = absurd (not-suc-le-zero h)
walk_induction n A R c P none more (suc k) y h ly cy = elim (zeros? y) [
  | inl z ↦ none y ly z
  | inr t ↦
      let g : (w : Counts) × (Mem w R) × Within w y = c.covers y ly cy t in
      let gd : Candidate n A g.0 = c.good g.0 g.1 in
      let l : Lower n g.0 y = lower n g.0 y gd.long ly gd.nonzero g.2 in
      more y ly cy g.0 g.1 g.2 l
      (walk_induction n A R c P none more k l.rest (omega (arith, l.smaller)) l.long (cycle_part l.p y 1 l.rest l.s g.0 l.combines A (omega arith) cy gd.cycle))
]

-- only rows within x have a coefficient
abbrev pub Uses : List ℕ → List Counts → Counts → Type 0
Uses [] R x = Unit {0}
Uses (c ∷ cs) [] x = Unit {0}
Uses (c ∷ cs) (w ∷ R) x = (0 < c → Within w x) × Uses cs R x

-- t × x is the sum of coefficient × row, with rows within x
abbrev pub Decomposed : List Counts → Counts → Type 0
Decomposed R x = (t : ℕ) × (cs : List ℕ) × (0 < t) × (length cs ≡ length R) × (Uses cs R x) × ((j : ℕ) → t * at x j ≡ mixed cs R j)

-- all coefficients 0
zeros : (R : List Counts) (x : Counts) → (cs : List ℕ) × (length cs ≡ length R) × (Uses cs R x) × ((j : ℕ) → mixed cs R j ≡ 0)
zeros [] x = ([], refl, tt, λ j. refl)
zeros (w ∷ R) x =
    let t : (cs : List ℕ) × (length cs ≡ length R) × (Uses cs R x) × ((j : ℕ) → mixed cs R j ≡ 0) = zeros R x in
    (0 ∷ t.0, ap suc t.1, (λ h. absurd (not-suc-le-zero h), t.2), λ j. omega (arith, t.3 j))

-- m more of the row w
spend :
    (R : List Counts) (x : Counts) (cs : List ℕ) → length cs ≡ length R → Uses cs R x → (w : Counts) → Mem w R → Within w x → (m : ℕ) →
    (ds : List ℕ) × (length ds ≡ length R) × (Uses ds R x) × ((j : ℕ) → mixed ds R j ≡ mixed cs R j + m * at w j)
spend [] x cs l us w h b m = absurd h
spend (v ∷ R) x [] l us w h b m = absurd (omega arith)
spend (v ∷ R) x (c ∷ cs) l us w (inl e) b m = (
  (c + m) ∷ cs,
  l,
  (λ h k q. subst (λ (y : Counts). Within y x) e b k q, us.1),
  λ j. omega (arith, ap (λ (y : Counts). m * at y j) e),
)
spend (v ∷ R) x (c ∷ cs) l us w (inr h) b m =
    let t : (ds : List ℕ) × (length ds ≡ length R) × (Uses ds R x) × ((j : ℕ) → mixed ds R j ≡ mixed cs R j + m * at w j) = spend R x cs (omega arith) us.1 w h b m in
    (c ∷ t.0, ap suc t.1, (us.0, t.2), λ j. omega (arith, t.3 j))

wider : (R : List Counts) (cs : List ℕ) (x y : Counts) → Within x y → Uses cs R x → Uses cs R y
wider R [] x y b us = tt
wider [] (c ∷ cs) x y b us = tt
wider (w ∷ R) (c ∷ cs) x y b us = grind (arith, wider R cs x y b us.1)

-- the walk gives the coefficients: each round multiplies them by p and adds s to that of the row taken
pub decompose : (n : ℕ) (A : List Flow) (R : List Counts) → Cover n A R → (x : Counts) → length x ≡ n → FlowCycle A x → Decomposed R x
decompose n A R i x lx cx = walk_induction n A R (cover_reaches n A R i) (Decomposed R) none more (suc (steps_in_use n (at x))) x (omega arith) lx cx
  where
    none : (y : Counts) → length y ≡ n → ((j : ℕ) → at y j ≡ 0) → Decomposed R y
    none y ly z =
        let t : (cs : List ℕ) × (length cs ≡ length R) × (Uses cs R y) × ((j : ℕ) → mixed cs R j ≡ 0) = zeros R y in
        (1, t.0, omega arith, t.1, t.2, λ j. omega (arith, t.3 j, z j))

    more : (y : Counts) → length y ≡ n → FlowCycle A y → (w : Counts) → Mem w R → Within w y → (d : Lower n w y) → Decomposed R d.rest → Decomposed R y
    more y ly cy w m b d t =
        let r : (ds : List ℕ) × (length ds ≡ length R) × (Uses ds R y) × ((j : ℕ) → mixed ds R j ≡ mixed t.1 R j + (t.0 * d.s) * at w j) =
        spend R y t.1 t.3 (wider R t.1 d.rest y d.within t.4) w m b (t.0 * d.s) in (
          t.0 * d.p,
          r.0,
          mul-pos t.2 d.pos_p,
          r.1,
          r.2,
          λ j. omega (arith, r.3 j, t.5 j, ap (λ (k : ℕ). t.0 * k) (d.combines j)),
        )

-- a cycle of A, taken apart into rows that are cycles of B, is a cycle of B
pub cycle_carries : (n : ℕ) (A B : List Flow) (R : List Counts) → Cover n A R → Cover n B R → (x : Counts) → length x ≡ n → FlowCycle A x → FlowCycle B x
cycle_carries n A B R i k x lx fx = walk_induction n A R (cover_reaches n A R i) (FlowCycle B) none more (suc (steps_in_use n (at x))) x (omega arith) lx fx
  where
    none : (y : Counts) → length y ≡ n → ((j : ℕ) → at y j ≡ 0) → FlowCycle B y
    none y ly z = zeros_balance B y z

    more : (y : Counts) → length y ≡ n → FlowCycle A y → (w : Counts) → Mem w R → Within w y → (d : Lower n w y) → FlowCycle B d.rest → FlowCycle B y
    more y ly fy w m b d fr = cycle_whole d.p y 1 d.rest d.s w d.combines B d.pos_p fr (k.good w m).cycle
