-- A minimal cycle is the only one within its steps (unique). Rows that cover the cycles are the minimal cycles (members).
use Rattle.std.proofs.Common.{◌≡◌, ℕ, ◌<◌, ◌⊎◌, ◌↔◌, List, length, sym, ◌∙◌, subst, inl, inr, arith}
use Rattle.cycle_theory.specs.Nets.{Counts, at, Mem, Nonzero, Within}
use Rattle.cycle_theory.specs.Flows.{Flow, FlowCycle, Candidate, FlowMinimal, Cover}
use Rattle.cycle_theory.proofs.Rows.{zeros?}
use Rattle.cycle_theory.proofs.Supports.{steps_in_use, no_more_steps}
use Rattle.cycle_theory.proofs.Balance.{cycle_part}
use Rattle.cycle_theory.proofs.Ratios.{proportional_equal, Lower, lower}

-- a cycle other than the zeros within e that uses fewer steps
pub record Smaller (n : ℕ) (A : List Flow) (e : Counts) : Type 0 where
  pub row : Counts
  pub long : length row ≡ n
  pub cycle : FlowCycle A row
  pub nonzero : Nonzero row
  pub within : Within row e
  pub smaller : steps_in_use n (at row) < steps_in_use n (at e)

-- of two candidates, one within the other: the rest is zeros, and the rows are proportional and so equal, or the rest is smaller
pub equal_or_smaller : (n : ℕ) (A : List Flow) (w e : Counts) → Candidate n A w → Candidate n A e → Within w e → (w ≡ e) ⊎ Smaller n A e
equal_or_smaller n A w e gw ge b = go (lower n w e gw.long ge.long gw.nonzero b)
  where
    go : Lower n w e → (w ≡ e) ⊎ Smaller n A e
    go l = elim (zeros? l.rest) [
      | inl z ↦ inl (sym (proportional_equal e w l.p l.s (ge.long ∙ sym gw.long) ge.primitive gw.primitive l.pos_p l.pos_s (λ j. omega (arith, l.combines j, z j))))
      | inr t ↦ inr (record {
        row = l.rest;
        long = l.long;
        cycle = cycle_part l.p e 1 l.rest l.s w l.combines A (omega arith) ge.cycle gw.cycle;
        nonzero = t;
        within = l.within;
        smaller = l.smaller;
      })
    ]

-- nothing but itself stands within a minimal cycle
pub unique : (n : ℕ) (A : List Flow) (w e : Counts) → Candidate n A w → FlowMinimal n A e → Within w e → w ≡ e
unique n A w e gw me b = elim (equal_or_smaller n A w e gw me.is b) [
  | inl q ↦ q
  | inr s ↦ absurd (omega (arith, s.smaller, no_more_steps n (at e) (at s.row) (me.least s.row s.long s.cycle s.nonzero s.within)))
]

-- of rows that cover the cycles each is minimal, and each minimal cycle is one of them
pub minimal_of_mem : (n : ℕ) (A : List Flow) (R : List Counts) → Cover n A R → (w : Counts) → Mem w R → FlowMinimal n A w
minimal_of_mem n A R i w m = record {
  is = i.good w m;
  least = λ y ly cy ny b.
      let g : (v : Counts) × (Mem v R) × Within v y = i.covers y ly cy ny in
      let q : g.0 ≡ w = i.apart g.0 w g.1 m (λ j h. b j (g.2 j h)) in
      subst (λ (v : Counts). Within v y) q g.2;
}

pub mem_of_minimal : (n : ℕ) (A : List Flow) (R : List Counts) → Cover n A R → (w : Counts) → FlowMinimal n A w → Mem w R
mem_of_minimal n A R i w m =
    let g : (v : Counts) × (Mem v R) × Within v w = i.covers w m.is.long m.is.cycle m.is.nonzero in
    subst (λ (v : Counts). Mem v R) (unique n A g.0 w (i.good g.0 g.1) m g.2) g.1

-- both ways
pub members : (n : ℕ) (A : List Flow) (R : List Counts) → Cover n A R → (w : Counts) → Mem w R ↔ FlowMinimal n A w
members n A R i w = (minimal_of_mem n A R i w, mem_of_minimal n A R i w)

-- minimal depends on the cycles only
minimal_carries : (n : ℕ) (A B : List Flow) → ((x : Counts) → length x ≡ n → FlowCycle A x ↔ FlowCycle B x) → (w : Counts) → FlowMinimal n A w → FlowMinimal n B w
minimal_carries n A B h w m = grind arith

-- so rows that cover the same cycles are the same rows
pub same_cycles :
    (n : ℕ) (A B : List Flow) (R S : List Counts) → Cover n A R → Cover n B S → ((x : Counts) → length x ≡ n → FlowCycle A x ↔ FlowCycle B x) →
    (w : Counts) → Mem w R ↔ Mem w S
same_cycles n A B R S i j h w = (
  λ m. mem_of_minimal n B S j w (minimal_carries n A B h w (minimal_of_mem n A R i w m)),
  λ m. mem_of_minimal n A R i w (minimal_carries n B A (λ x l. ((h x l).1, (h x l).0)) w (minimal_of_mem n B S j w m)),
)
