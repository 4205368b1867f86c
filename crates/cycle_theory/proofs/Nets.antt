-- From nets to flows and back: the method's rows cover the cycles of the flows, and are ascending (tss_cover).
use Rattle.std.proofs.Common.{◌≡◌, ℕ, zero, suc, ◌≤◌, List, [], ◌∷◌, ◌++◌, map, length, sym, refl, ◌∙◌, subst, arith}
use Rattle.cycle_theory.specs.Nets.{Counts, Place, Cycle, Nonzero, Divides, Minimal, Ascending}
use Rattle.cycle_theory.specs.Method.{units, step, after, tss}
use Rattle.cycle_theory.specs.Flows.{flow, Primitive, FlowCycle, FlowMinimal, Cover, flow_after, flow_run}
use Rattle.cycle_theory.proofs.Runs.{run_cover, after_run}
use Rattle.cycle_theory.proofs.Integers.{cycle_said, step_flow}

-- the cycles are the same
pub cycle_flows : (n : ℕ) (A : List Place) (x : Counts) → Cycle n A x → FlowCycle (map flow A) x
cycle_flows n A x c = (cycle_said A x).0 c.stays

pub flows_cycle : (n : ℕ) (A : List Place) (x : Counts) → length x ≡ n → FlowCycle (map flow A) x → Cycle n A x
flows_cycle n A x l f = record { long = l; stays = (cycle_said A x).1 f }

-- no common divisor above 1 is none but 1, where a count is not 0
reduced_primitive : (x : Counts) → Nonzero x → ((d : ℕ) → Divides d x → d ≤ 1) → Primitive x
reduced_primitive x nx h zero f = absurd (omega (arith, (f nx.0).1, nx.1))
reduced_primitive x nx h (suc d) f = omega (arith, h (suc d) f)

-- That no cycle uses only some of the steps, and that every cycle within them uses all of them, is the same,
-- since it can be told whether one row is within another.
pub minimal_flows : (n : ℕ) (A : List Place) (x : Counts) → Minimal n A x → FlowMinimal n (map flow A) x
minimal_flows n A x m = grind (arith, cycle_flows, reduced_primitive, flows_cycle)

pub flows_minimal : (n : ℕ) (A : List Place) (x : Counts) → FlowMinimal n (map flow A) x → Minimal n A x
flows_minimal n A x m = grind (arith, flows_cycle, cycle_flows)

-- the method is the same
pub after_flows : (R : List Counts) (A : List Place) → after R A ≡ flow_after R (map flow A)
after_flows R [] = refl
after_flows R (p ∷ A) = grind (arith, after_flows (step p R) A, step_flow)

pub tss_run : (n : ℕ) (A : List Place) → tss n A ≡ flow_run n (map flow A)
tss_run n A = after_flows (units n) A ∙ after_run n (map flow A)

pub tss_cover : (n : ℕ) (A : List Place) → Cover n (map flow A) (tss n A) × Ascending (tss n A)
tss_cover n A = subst (λ (R : List Counts). Cover n (map flow A) R × Ascending R) (sym (tss_run n A)) (run_cover n (map flow A))

-- one place more, at the end
pub after_last : (R : List Counts) (A : List Place) (p : Place) → after R (A ++ p ∷ []) ≡ step p (after R A)
after_last R [] p = refl
after_last R (q ∷ A) p = after_last (step q R) A p
