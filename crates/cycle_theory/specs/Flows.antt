-- For proofs only: nobody needs to believe what stands here.
--
-- The proofs keep the integers out. A place acts on rows only by what it gains and what it loses, two sums of naturals;
-- a row leaves the place as it was where the two are equal.
--
-- Factor d a             d divides a
-- Primitive x            nothing but 1 divides all counts of x
-- Combines a x b y c z   a × x = b × y + c × z, step by step
-- sum_from p x i         the sum of the effects of p on the counts of x from step i on
-- dot g x i              the same for naturals g
-- Flow                   what each step adds to a place, and what it takes
-- flow p                 that of a list of effects
-- gains f x              what the counts x add to the place in all
-- losses f x             what they take
-- Balanced f x           the two are equal
-- FlowCycle A x          every place of A is balanced on x
-- Candidate n A w        a cycle of n counts, other than the zeros, that nothing but 1 divides
-- FlowMinimal n A w      a candidate such that every cycle other than the zeros within its steps uses all of them
-- Cover n A R            R holds candidates, none within another, and every cycle other than the zeros has one within it
-- Reaches n A R          the same of rows that are not cleaned yet: one may be within another
-- excess f u             how much the place gains by u more than it loses
-- shortfall f v          how much the place loses by v more than it gains
-- pair_row f u v         the row of u and v, divided
-- flow_pairs f us vs     the rows of each u of us and each v of vs
-- flow_rows f R          the balanced rows, and the rows of all pairs
-- flow_step f R          the rows after one place more
-- flow_after R A         the rows after all places, from the first on
-- flow_run n A           the rows after all places, from the last on
-- Born f R z             z stands in flow_rows f R, said
-- Kept L z               z stays when L is cleaned, said
-- Chosen f R z           z stands in flow_step f R, said with no cleaning: the pair has no third row
use Rattle.std.specs.Prelude.{◌≡◌, ℕ, suc, ◌+◌, ◌-◌, ◌*◌, ◌<◌, ◌⊎◌, List, [], ◌∷◌, ◌++◌, map, length, ℤ, pos, ◌+ℤ◌, ◌*ℤ◌, nat_eq, nat_lt}
use Rattle.cycle_theory.specs.Nets.{Counts, at, Mem, Place, Nonzero, Within, Divides}
use Rattle.cycle_theory.specs.Method.{surplus, deficit, weighted, divided, keep, cleaned, ascending, units}
use Rattle.cycle_theory.specs.Theorems.{NoThird}

abbrev pub Factor : ℕ → ℕ → Type 0
Factor d a = (q : ℕ) × (a ≡ d * q)

abbrev pub Primitive : Counts → Type 0
Primitive x = (d : ℕ) → Divides d x → d ≡ 1

abbrev pub Combines : ℕ → Counts → ℕ → Counts → ℕ → Counts → Type 0
Combines a x b y c z = (j : ℕ) → a * at x j ≡ b * at y j + c * at z j

abbrev pub sum_from : Place → Counts → ℕ → ℤ
sum_from [] x i = pos 0
sum_from (e ∷ p) x i = (e *ℤ pos (at x i)) +ℤ sum_from p x (suc i)

abbrev pub dot : List ℕ → Counts → ℕ → ℕ
dot [] x i = 0
dot (g ∷ gs) x i = g * at x i + dot gs x (suc i)

pub record Flow : Type 0 where
  pub gain : List ℕ
  pub loss : List ℕ

abbrev pub flow : Place → Flow
flow p = record { gain = map surplus p; loss = map deficit p }

abbrev pub gains : Flow → Counts → ℕ
gains f x = dot f.gain x 0

abbrev pub losses : Flow → Counts → ℕ
losses f x = dot f.loss x 0

abbrev pub Balanced : Flow → Counts → Type 0
Balanced f x = gains f x ≡ losses f x

abbrev pub FlowCycle : List Flow → Counts → Type 0
FlowCycle [] x = Unit {0}
FlowCycle (f ∷ A) x = Balanced f x × FlowCycle A x

pub record Candidate (n : ℕ) (A : List Flow) (w : Counts) : Type 0 where
  pub long : length w ≡ n
  pub cycle : FlowCycle A w
  pub nonzero : Nonzero w
  pub primitive : Primitive w

pub record FlowMinimal (n : ℕ) (A : List Flow) (w : Counts) : Type 0 where
  pub is : Candidate n A w
  pub least : (y : Counts) → length y ≡ n → FlowCycle A y → Nonzero y → Within y w → Within w y

pub record Cover (n : ℕ) (A : List Flow) (R : List Counts) : Type 0 where
  pub good : (w : Counts) → Mem w R → Candidate n A w
  pub apart : (w v : Counts) → Mem w R → Mem v R → Within w v → w ≡ v
  pub covers : (x : Counts) → length x ≡ n → FlowCycle A x → Nonzero x → (w : Counts) × (Mem w R) × Within w x

pub record Reaches (n : ℕ) (A : List Flow) (R : List Counts) : Type 0 where
  pub good : (w : Counts) → Mem w R → Candidate n A w
  pub covers : (x : Counts) → length x ≡ n → FlowCycle A x → Nonzero x → (w : Counts) × (Mem w R) × Within w x

abbrev pub excess : Flow → Counts → ℕ
excess f u = gains f u - losses f u

abbrev pub shortfall : Flow → Counts → ℕ
shortfall f v = losses f v - gains f v

abbrev pub pair_row : Flow → Counts → Counts → Counts
pair_row f u v = divided (weighted (shortfall f v) u (excess f u) v)

abbrev pub flow_pairs : Flow → List Counts → List Counts → List Counts
flow_pairs f [] vs = []
flow_pairs f (u ∷ us) vs = map (λ v. pair_row f u v) vs ++ flow_pairs f us vs

abbrev pub flow_rows : Flow → List Counts → List Counts
flow_rows f R =
    keep (λ x. nat_eq (gains f x) (losses f x)) R
    ++ flow_pairs f (keep (λ u. nat_lt (losses f u) (gains f u)) R) (keep (λ v. nat_lt (gains f v) (losses f v)) R)

abbrev pub flow_step : Flow → List Counts → List Counts
flow_step f R = ascending (cleaned (flow_rows f R))

abbrev pub flow_after : List Counts → List Flow → List Counts
flow_after R [] = R
flow_after R (f ∷ A) = flow_after (flow_step f R) A

abbrev pub flow_run : ℕ → List Flow → List Counts
flow_run n [] = units n
flow_run n (f ∷ A) = flow_step f (flow_run n A)

abbrev pub Born : Flow → List Counts → Counts → Type 0
Born f R z =
    (Mem z R × Balanced f z)
    ⊎ ((u : Counts) × (v : Counts) × (Mem u R) × (Mem v R) × (losses f u < gains f u) × (gains f v < losses f v) × (z ≡ pair_row f u v))

abbrev pub Kept : List Counts → Counts → Type 0
Kept L z = (w : Counts) → Mem w L → Within w z → w ≡ z

abbrev pub Chosen : Flow → List Counts → Counts → Type 0
Chosen f R z =
    (Mem z R × Balanced f z)
    ⊎ ((u : Counts) × (v : Counts) × (Mem u R) × (Mem v R) × (losses f u < gains f u) × (gains f v < losses f v) × (NoThird R u v) × (z ≡ pair_row f u v))
