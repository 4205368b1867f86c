-- The places one after the other: from the last on (run_cover), and from the first on, with the same rows (after_run).
use Rattle.std.proofs.Common.{◌≡◌, ℕ, ◌↔◌, List, [], ◌∷◌, ◌++◌, length, refl, ap, subst}
use Rattle.cycle_theory.proofs.Balance.{cycle_last}
use Rattle.cycle_theory.specs.Nets.{Counts, Ascending}
use Rattle.cycle_theory.specs.Method.{units}
use Rattle.cycle_theory.specs.Flows.{Flow, FlowCycle, Candidate, Cover, flow_step, flow_after, flow_run}
use Rattle.cycle_theory.proofs.Minimals.{same_cycles}
use Rattle.cycle_theory.proofs.Ascending.{determined}
use Rattle.cycle_theory.proofs.Units.{units_cover}
use Rattle.cycle_theory.proofs.Steps.{stepped}

-- the rows cover the cycles after each place
pub run_cover : (n : ℕ) (A : List Flow) → Cover n A (flow_run n A) × Ascending (flow_run n A)
run_cover n [] = units_cover n
run_cover n (p ∷ A) = stepped n A (flow_run n A) (run_cover n A).0 p

-- so they depend on the cycles only
pub run_same : (n : ℕ) (A B : List Flow) → ((x : Counts) → length x ≡ n → FlowCycle A x ↔ FlowCycle B x) → flow_run n A ≡ flow_run n B
run_same n A B h = determined (flow_run n A) (flow_run n B) (run_cover n A).1 (run_cover n B).1 (same_cycles n A B (flow_run n A) (flow_run n B) (run_cover n A).0 (run_cover n B).0 h)

-- rows that cover cycles cover those of any places with the same cycles
pub cover_same : (n : ℕ) (A B : List Flow) (R : List Counts) → ((x : Counts) → length x ≡ n → FlowCycle A x ↔ FlowCycle B x) → Cover n A R → Cover n B R
cover_same n A B R h i = record {
  good = λ w m.
      let g : Candidate n A w = i.good w m in
      record { long = g.long; cycle = (h w g.long).0 g.cycle; nonzero = g.nonzero; primitive = g.primitive };
  apart = i.apart;
  covers = λ x lx cx nx. i.covers x lx ((h x lx).1 cx) nx;
}

-- the next place may stand last
pub cover_last : (n : ℕ) (A : List Flow) (R : List Counts) (p : Flow) → Cover n A R → Cover n (A ++ p ∷ []) (flow_step p R)
cover_last n A R p i = cover_same n (p ∷ A) (A ++ p ∷ []) (flow_step p R) (λ x l. cycle_last A p x) (stepped n A R i p).0

app_assoc : (A B : List Flow) (p : Flow) → (A ++ p ∷ []) ++ B ≡ A ++ p ∷ B
app_assoc [] B p = refl
app_assoc (q ∷ A) B p = ap {B = List Flow} (λ l. q ∷ l) (app_assoc A B p)

-- the same from the first place on
after_cover : (n : ℕ) (A B : List Flow) (R : List Counts) → Cover n A R → Ascending R → Cover n (A ++ B) (flow_after R B) × Ascending (flow_after R B)
after_cover n A [] R i a = (cover_same n A (A ++ []) R (λ x l. no_more A x) i, a)
  where
    no_more : (A : List Flow) (x : Counts) → FlowCycle A x ↔ FlowCycle (A ++ []) x
    no_more [] x = (λ c. c, λ c. c)
    no_more (q ∷ A) x = (λ c. (c.0, (no_more A x).0 c.1), λ c. (c.0, (no_more A x).1 c.1))
after_cover n A (p ∷ B) R i a =
    subst (λ (l : List Flow). Cover n l (flow_after (flow_step p R) B) × Ascending (flow_after (flow_step p R) B)) (app_assoc A B p)
    (after_cover n (A ++ p ∷ []) B (flow_step p R) (cover_last n A R p i) (stepped n A R i p).1)

-- both orders give ascending lists of the same members
pub after_run : (n : ℕ) (A : List Flow) → flow_after (units n) A ≡ flow_run n A
after_run n A =
    let f : Cover n A (flow_after (units n) A) × Ascending (flow_after (units n) A) = after_cover n [] A (units n) (units_cover n).0 (units_cover n).1 in
    determined (flow_after (units n) A) (flow_run n A) f.1 (run_cover n A).1
    (same_cycles n A A (flow_after (units n) A) (flow_run n A) f.0 (run_cover n A).0 (λ x l. (λ c. c, λ c. c)))
