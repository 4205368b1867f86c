-- The balanced rows and the rows of all pairs reach every cycle of one place more (born_covers).
use Rattle.std.proofs.Common.{rules, ◌≡◌, ℕ, suc, ◌+◌, ◌*◌, ◌<◌, ◌≤◌, List, ◌∷◌, length, sym, refl, ap, subst, inl, inr, mul-le-mul_left, arith}
use native.Mathlib.Nat.{mul-lt-mul_of_pos_left}
use Rattle.std.proofs.lemmas.Bool.{cases_order}
use Rattle.cycle_theory.specs.Nets.{Counts, at, Mem, Nonzero, Within}
use Rattle.cycle_theory.specs.Flows.{dot, Flow, gains, losses, FlowCycle, Candidate, Cover, Reaches, excess, shortfall, pair_row, Born}
use Rattle.cycle_theory.proofs.Rows.{split}
use Rattle.cycle_theory.proofs.Supports.{steps_in_use}
use Rattle.cycle_theory.proofs.Balance.{dot_combines, dot_zeros, cycle_part}
use Rattle.cycle_theory.proofs.Ratios.{Lower, lower}
use Rattle.cycle_theory.proofs.Decomposition.{cover_reaches, walk_induction}
use Rattle.cycle_theory.proofs.Combining.{joined_within, pair_joined, pair_candidate}

-- where a row that the place does not lose by is taken away from one that it loses by, it loses by the rest
lowered : (p s gy ly gw lw gr lr : ℕ) → 0 < p → p * gy ≡ 1 * gr + s * gw → p * ly ≡ 1 * lr + s * lw → gy < ly → lw ≤ gw → gr < lr
lowered p s gy ly gw lw gr lr hp e f h k = omega (arith, mul-lt-mul_of_pos_left h hp, mul-le-mul_left s k)

-- a cycle that a place loses by has a row within it that the place loses by: the walk meets one
pub losing_row :
    (n : ℕ) (A : List Flow) (R : List Counts) → Reaches n A R → (g l : List ℕ) (y : Counts) → length y ≡ n → FlowCycle A y → dot g y 0 < dot l y 0 →
    (v : Counts) × (Mem v R) × (Within v y) × (dot g v 0 < dot l v 0)
losing_row n A R c g l y ly cy h = walk_induction n A R c P none more (suc (steps_in_use n (at y))) y (omega arith) ly cy h
  where
    P : Counts → Type 0
    P x = dot g x 0 < dot l x 0 → (v : Counts) × (Mem v R) × (Within v x) × (dot g v 0 < dot l v 0)

    none : (x : Counts) → length x ≡ n → ((j : ℕ) → at x j ≡ 0) → P x
    none x lx z q = absurd (omega (arith, dot_zeros g x 0 z, dot_zeros l x 0 z, q))

    more : (x : Counts) → length x ≡ n → FlowCycle A x → (w : Counts) → Mem w R → Within w x → (d : Lower n w x) → P d.rest → P x
    more x lx cx w m b d ih q = elim (split (dot l w 0) (dot g w 0)) [
      | inr lt ↦ (w, m, b, lt)
      | inl le ↦
          let t : (v : Counts) × (Mem v R) × (Within v d.rest) × (dot g v 0 < dot l v 0) =
          ih (lowered d.p d.s (dot g x 0) (dot l x 0) (dot g w 0) (dot l w 0) (dot g d.rest 0) (dot l d.rest 0) d.pos_p
          (dot_combines g d.p x 1 d.rest d.s w 0 d.combines) (dot_combines l d.p x 1 d.rest d.s w 0 d.combines) q le) in
          (t.0, t.1, λ j k. d.within j (t.2 j k), t.3)
    ]

-- where a row that the place gains by is taken away from a balanced one, it loses by the rest
lose : (p s gx lx gw lw gr lr : ℕ) → 0 < s → p * gx ≡ 1 * gr + s * gw → p * lx ≡ 1 * lr + s * lw → gx ≡ lx → lw < gw → gr < lr
lose p s gx lx gw lw gr lr hs e f h k = omega (arith, ap (λ (m : ℕ). p * m) h, mul-lt-mul_of_pos_left k hs)

-- a balanced cycle that has a row within it by which the place gains has one within it by which the place loses
pub opposite_row :
    (n : ℕ) (A : List Flow) (R : List Counts) → Reaches n A R → (g l : List ℕ) (x : Counts) → length x ≡ n → FlowCycle A x → dot g x 0 ≡ dot l x 0 →
    (w : Counts) → Mem w R → Within w x → dot l w 0 < dot g w 0 → (v : Counts) × (Mem v R) × (Within v x) × (dot g v 0 < dot l v 0)
opposite_row n A R c g l x lx cx bx w m b h =
    let gw : Candidate n A w = c.good w m in
    let d : Lower n w x = lower n w x gw.long lx gw.nonzero b in
    let t : (v : Counts) × (Mem v R) × (Within v d.rest) × (dot g v 0 < dot l v 0) =
    losing_row n A R c g l d.rest d.long (cycle_part d.p x 1 d.rest d.s w d.combines A (omega arith) cx gw.cycle)
    (lose d.p d.s (dot g x 0) (dot l x 0) (dot g w 0) (dot l w 0) (dot g d.rest 0) (dot l d.rest 0) d.pos_s
    (dot_combines g d.p x 1 d.rest d.s w 0 d.combines) (dot_combines l d.p x 1 d.rest d.s w 0 d.combines) bx h) in
    (t.0, t.1, λ j k. d.within j (t.2 j k), t.3)

-- rows that cover the cycles of the places A, and one place p more
module _ (n : ℕ) (A : List Flow) (R : List Counts) (i : Cover n A R) (p : Flow) where
  -- what is born is a candidate
  pub born_candidate : (z : Counts) → Born p R z → Candidate n (p ∷ A) z
  born_candidate z (inl t) = search rules
  born_candidate z (inr t) = subst (λ (x : Counts). Candidate n (p ∷ A) x) (sym t.6) (pair_candidate n A p t.0 t.1 (i.good t.0 t.2) (i.good t.1 t.3) t.4 t.5)

  -- the row of a pair within x is within x
  pair_covers :
      (x u v : Counts) (mu : Mem u R) (mv : Mem v R) → Within u x → Within v x → losses p u < gains p u → gains p v < losses p v → (z : Counts) × (Born p R z) × Within z x
  pair_covers x u v mu mv bu bv hu hv = (
    pair_row p u v,
    inr (u, v, mu, mv, hu, hv, refl),
    joined_within n (shortfall p v) u (excess p u) v (pair_row p u v) (pair_joined n A p u v (i.good u mu) (i.good v mv) hu hv) x bu bv,
  )

  -- a row within x is balanced, or it has an opposite row within x
  pub born_covers : (x : Counts) → length x ≡ n → FlowCycle (p ∷ A) x → Nonzero x → (z : Counts) × (Born p R z) × Within z x
  born_covers x lx cx nx = go (i.covers x lx cx.1 nx)
    where
      go : (w : Counts) × (Mem w R) × Within w x → (z : Counts) × (Born p R z) × Within z x
      go t = elim (cases_order (gains p t.0) (losses p t.0)) [
        | inl e ↦ (t.0, inl (t.1, e), t.2)
        | inr (inl lt) ↦
            let o : (v : Counts) × (Mem v R) × (Within v x) × (losses p v < gains p v) = opposite_row n A R (cover_reaches n A R i) p.loss p.gain x lx cx.1 (sym cx.0) t.0 t.1 t.2 lt in
            pair_covers x o.0 t.0 o.1 t.1 o.2 t.2 o.3 lt
        | inr (inr gt) ↦
            let o : (v : Counts) × (Mem v R) × (Within v x) × (gains p v < losses p v) = opposite_row n A R (cover_reaches n A R i) p.gain p.loss x lx cx.1 cx.0 t.0 t.1 t.2 gt in
            pair_covers x t.0 o.0 t.1 o.1 t.2 o.2 gt o.3
      ]
