-- Balance is linear: where a × y = b × x + c × w, and two of the rows are cycles, so is the third (cycle_part, cycle_whole).
use Rattle.std.proofs.Common.{◌≡◌, ℕ, suc, ◌+◌, ◌*◌, ◌<◌, ◌↔◌, List, [], ◌∷◌, ◌++◌, refl, ap, arith}
use native.Mathlib.Nat.{eq_of_mul-eq-mul_left}
use Rattle.cycle_theory.specs.Nets.{Counts, at}
use Rattle.cycle_theory.specs.Flows.{Combines, dot, Flow, gains, losses, Balanced, FlowCycle}

-- a sum of products over a combination of rows is the combination of the sums
pub dot_combines : (gs : List ℕ) (a : ℕ) (x : Counts) (b : ℕ) (y : Counts) (c : ℕ) (z : Counts) (i : ℕ) → Combines a x b y c z → a * dot gs x i ≡ b * dot gs y i + c * dot gs z i
dot_combines [] a x b y c z i h = omega arith
dot_combines (g ∷ gs) a x b y c z i h =
    let r : a * dot gs x (suc i) ≡ b * dot gs y (suc i) + c * dot gs z (suc i) = dot_combines gs a x b y c z (suc i) h in
    let k : g * (a * at x i) ≡ g * (b * at y i + c * at z i) = ap (λ (m : ℕ). g * m) (h i) in
    omega arith

pub dot_zeros : (g : List ℕ) (x : Counts) (i : ℕ) → ((j : ℕ) → at x j ≡ 0) → dot g x i ≡ 0
dot_zeros [] x i z = refl
dot_zeros (a ∷ g) x i z = omega (arith, ap (λ (m : ℕ). a * m) (z i), dot_zeros g x (suc i) z)

-- zeros are a cycle of any places
pub zeros_balance : (A : List Flow) (x : Counts) → ((j : ℕ) → at x j ≡ 0) → FlowCycle A x
zeros_balance [] x z = tt
zeros_balance (p ∷ A) x z = grind (arith, zeros_balance A x z, dot_zeros)

-- a·y = b·x + c·w
module _ (a : ℕ) (y : Counts) (b : ℕ) (x : Counts) (c : ℕ) (w : Counts) (h : Combines a y b x c w) where
  pub balanced_part : (p : Flow) → 0 < b → Balanced p y → Balanced p w → Balanced p x
  balanced_part p hb by bw =
      eq_of_mul-eq-mul_left b hb (gains p x) (losses p x)
      (omega (arith, dot_combines p.gain a y b x c w 0 h, dot_combines p.loss a y b x c w 0 h, ap (λ (m : ℕ). a * m) by, ap (λ (m : ℕ). c * m) bw))

  pub balanced_whole : (p : Flow) → 0 < a → Balanced p x → Balanced p w → Balanced p y
  balanced_whole p ha bx bw =
      eq_of_mul-eq-mul_left a ha (gains p y) (losses p y)
      (omega (arith, dot_combines p.gain a y b x c w 0 h, dot_combines p.loss a y b x c w 0 h, ap (λ (m : ℕ). b * m) bx, ap (λ (m : ℕ). c * m) bw))

  pub cycle_part : (A : List Flow) → 0 < b → FlowCycle A y → FlowCycle A w → FlowCycle A x
  cycle_part [] hb cy cw = tt
  cycle_part (p ∷ A) hb cy cw = (balanced_part p hb cy.0 cw.0, cycle_part A hb cy.1 cw.1)

  pub cycle_whole : (A : List Flow) → 0 < a → FlowCycle A x → FlowCycle A w → FlowCycle A y
  cycle_whole [] ha cx cw = tt
  cycle_whole (p ∷ A) ha cx cw = (balanced_whole p ha cx.0 cw.0, cycle_whole A ha cx.1 cw.1)

-- the last place may stand first
pub cycle_last : (A : List Flow) (p : Flow) (x : Counts) → FlowCycle (p ∷ A) x ↔ FlowCycle (A ++ p ∷ []) x
cycle_last [] p x = (λ c. c, λ c. c)
cycle_last (q ∷ A) p x = grind (arith, cycle_last A p x)
