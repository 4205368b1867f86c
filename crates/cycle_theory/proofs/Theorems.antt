-- The theorems, in the words of nets, from those on flows.
use Rattle.std.proofs.Common.{arith, ◌≡◌, ℕ, ◌↔◌, List, [], ◌∷◌, ◌++◌, map, length, sym, ap, ◌∙◌, subst}
use Rattle.cycle_theory.specs.Nets.{Counts, Mem, Place, Cycle}
use Rattle.cycle_theory.specs.Method.{combined, divided, units, step, tss}
use Rattle.cycle_theory.specs.Theorems.{AllMinimal, Opposed, NoThird, TssMinimal, TssSums, TssSame, ThirdRow, OnePair, PairNew, TssOrder, OneList, OneNumber, SameSteps, UnitsMinimal, StepMinimal, TssReaches, DivisorGreatest}
use Rattle.cycle_theory.specs.Flows.{flow, Cover, pair_row, flow_step}
use Rattle.cycle_theory.proofs.Divisors.{divisor_divides, divisor_greatest}
use Rattle.cycle_theory.proofs.Decomposition.{Decomposed, decompose, cycle_carries}
use Rattle.cycle_theory.proofs.Minimals.{unique, members}
use Rattle.cycle_theory.proofs.Ascending.{determined}
use Rattle.cycle_theory.proofs.Steps as steps
use Rattle.cycle_theory.proofs.Runs.{run_same}
use Rattle.cycle_theory.proofs.Integers.{gains_said, loses_said, pair_flow, step_flow}
use Rattle.cycle_theory.proofs.Nets.{cycle_flows, flows_cycle, minimal_flows, flows_minimal, tss_run, tss_cover, after_last}

pub tss_minimal : TssMinimal
tss_minimal n A = record {
  ascending = (tss_cover n A).1;
  exactly = λ x. (
    λ m. flows_minimal n A x ((members n (map flow A) (tss n A) (tss_cover n A).0 x).0 m),
    λ m. (members n (map flow A) (tss n A) (tss_cover n A).0 x).1 (minimal_flows n A x m),
  );
}

pub tss_sums : TssSums
tss_sums n A x c =
    let d : Decomposed (tss n A) x = decompose n (map flow A) (tss n A) (tss_cover n A).0 x c.long (cycle_flows n A x c) in
    record { times = d.0; positive = d.2; coefficients = d.1; one_each = d.3; adds_up = d.5 }

-- equal lists: each cycle is taken apart into rows that are cycles of the other places too
same_cycle : (n : ℕ) (A B : List Place) → tss n A ≡ tss n B → (x : Counts) → Cycle n A x → Cycle n B x
same_cycle n A B e x c =
    flows_cycle n B x c.long
    (cycle_carries n (map flow A) (map flow B) (tss n A) (tss_cover n A).0 (subst (λ (R : List Counts). Cover n (map flow B) R) (sym e) (tss_cover n B).0)
    x c.long (cycle_flows n A x c))

pub tss_same : TssSame
tss_same n A B = grind (arith, same_cycle, tss_run, run_same, cycle_flows, flows_cycle)

module _ (n : ℕ) (A : List Place) (p : Place) (u v : Counts) (o : Opposed p (tss n A) u v) where
  -- the pair's row in the step of the flows
  to_flow : Mem (divided (combined p u v)) (step p (tss n A)) → Mem (pair_row (flow p) u v) (flow_step (flow p) (tss n A))
  to_flow m = grind (arith, step_flow, pair_flow)

  from_flow : Mem (pair_row (flow p) u v) (flow_step (flow p) (tss n A)) → Mem (divided (combined p u v)) (step p (tss n A))
  from_flow m = grind (arith, pair_flow, step_flow)

  pub third : Mem (divided (combined p u v)) (step p (tss n A)) ↔ NoThird (tss n A) u v
  third =
      let t : Mem (pair_row (flow p) u v) (flow_step (flow p) (tss n A)) ↔ NoThird (tss n A) u v =
      steps.third_row n (map flow A) (tss n A) (tss_cover n A).0 (flow p) u v o.first o.second (gains_said p u o.gains) (loses_said p v o.loses) in
      (λ m. t.0 (to_flow m), λ h. from_flow (t.1 h))

pub third_row : ThirdRow
third_row n A p u v o = third n A p u v o

pub one_pair : OnePair
one_pair n A p u v u' v' o o' m e =
    steps.pairs_apart n (map flow A) (tss n A) (tss_cover n A).0 (flow p) u v u' v' o.first o.second o'.first o'.second
    (gains_said p u o.gains) (loses_said p v o.loses) (gains_said p u' o'.gains) (loses_said p v' o'.loses)
    ((third n A p u v o).0 m) (sym (pair_flow p u v) ∙ e ∙ pair_flow p u' v')

pub pair_new : PairNew
pair_new n A p u v o m =
    steps.pair_new n (map flow A) (tss n A) (tss_cover n A).0 (flow p) u v o.first o.second
    (gains_said p u o.gains) (loses_said p v o.loses) (subst (λ (z : Counts). Mem z (tss n A)) (pair_flow p u v) m)

pub tss_order : TssOrder
tss_order n A B h = grind (arith, tss_same)

pub one_list : OneList
one_list n A a b h k = grind (arith, determined)

pub one_number : OneNumber
one_number n A a b h k = sym h.2 ∙ ap (λ (R : List Counts). length R) (one_list n A h.0 k.0 h.1 k.1) ∙ k.2

pub same_steps : SameSteps
same_steps n A x y mx my b = unique n (map flow A) x y (minimal_flows n A x mx).is (minimal_flows n A y my) b

pub units_minimal : UnitsMinimal
units_minimal n = tss_minimal n []

-- the rows are those of the method, which takes the next place last
pub step_minimal : StepMinimal
step_minimal n A p rows h =
    subst (λ (R : List Counts). AllMinimal n (A ++ p ∷ []) R)
    (after_last (units n) A p ∙ ap (step p) (one_list n A (tss n A) rows (tss_minimal n A) h)) (tss_minimal n (A ++ p ∷ []))

pub tss_reaches : TssReaches
tss_reaches n A x c nx = (tss_cover n A).0.covers x c.long (cycle_flows n A x c) nx

pub greatest_divisor : DivisorGreatest
greatest_divisor x = (divisor_divides x, λ d h. divisor_greatest d x h)
