-- The row of a pair: it uses the steps of both, the place is balanced on it, and nothing but 1 divides it (pair_candidate).
use Rattle.std.proofs.Common.{◌≡◌, ℕ, ◌+◌, ◌-◌, ◌*◌, ◌<◌, List, ◌∷◌, length, sym, ap, ◌∙◌, mul-pos, arith}
use native.Mathlib.Nat.{eq_of_mul-eq-mul_left}
use Rattle.cycle_theory.specs.Nets.{Counts, at, Nonzero, Within}
use Rattle.cycle_theory.specs.Method.{weighted, divisor, divided}
use Rattle.cycle_theory.specs.Flows.{Primitive, Combines, Flow, gains, losses, Candidate, excess, shortfall, pair_row}
use Rattle.cycle_theory.proofs.Rows.{at_past, length_tabulate, at_tabulate_all}
use Rattle.cycle_theory.proofs.Divisors.{divisor_positive, divided_long, divided_primitive, divided_at}
use Rattle.cycle_theory.proofs.Balance.{dot_combines, cycle_whole}

weighted_at : (r : ℕ) (u : Counts) (s : ℕ) (v : Counts) → length v ≡ length u → (j : ℕ) → at (weighted r u s v) j ≡ r * at u j + s * at v j
weighted_at r u s v l = grind (arith, at_tabulate_all, at_past)

-- z is r × u + s × v divided by the divisor g of its counts
pub record Joined (n r : ℕ) (u : Counts) (s : ℕ) (v z : Counts) : Type 0 where
  pub g : ℕ
  pub pos : 0 < g
  pub combines : Combines g z r u s v
  pub long : length z ≡ n
  pub primitive : Primitive z

pub join : (n r : ℕ) (u : Counts) (s : ℕ) (v : Counts) → length u ≡ n → length v ≡ n → 0 < r → Nonzero u → Joined n r u s v (divided (weighted r u s v))
join n r u s v lu lv hr nu =
    let x : Counts = weighted r u s v in
    let is : (j : ℕ) → at x j ≡ r * at u j + s * at v j = weighted_at r u s v (lv ∙ sym lu) in
    let nx : Nonzero x = (nu.0, omega (arith, is nu.0, mul-pos hr nu.1)) in
    record {
      g = divisor x;
      pos = divisor_positive x nx;
      combines = λ j. divided_at x nx j ∙ is j;
      long = divided_long x nx ∙ length_tabulate (length u) (λ j. r * at u j + s * at v j) ∙ lu;
      primitive = divided_primitive x nx;
    }

-- the joined row uses the steps of both, and no other
module _ (n r : ℕ) (u : Counts) (s : ℕ) (v z : Counts) (j : Joined n r u s v z) where
  pub left_within : 0 < r → Within u z
  left_within hr i h = grind arith

  pub right_within : 0 < s → Within v z
  right_within hs i h = grind arith

  pub joined_within : (x : Counts) → Within u x → Within v x → Within z x
  joined_within x bu bv i h = grind arith

-- (d − c) × a + (a − b) × c = (d − c) × b + (a − b) × d: what the pair's row gains is what it loses
balance : (g a b c d x y : ℕ) → 0 < g → b < a → c < d → g * x ≡ (d - c) * a + (a - b) * c → g * y ≡ (d - c) * b + (a - b) * d → x ≡ y
balance g a b c d x y hg h k p q =
    let r : ℕ = d - c in
    let s : ℕ = a - b in
    let ea : r * a ≡ r * (b + s) = ap (λ (m : ℕ). r * m) (omega arith) in
    let ed : s * d ≡ s * (c + r) = ap (λ (m : ℕ). s * m) (omega arith) in
    eq_of_mul-eq-mul_left g hg x y (p ∙ regroup r s a b c d ea ed ∙ sym q)
  where
    regroup : (r s a b c d : ℕ) → r * a ≡ r * (b + s) → s * d ≡ s * (c + r) → r * a + s * c ≡ r * b + s * d
    regroup r s a b c d ea ed = omega arith

-- a pair of candidates, of which the place p gains by u and loses by v
module _ (n : ℕ) (A : List Flow) (p : Flow) (u v : Counts) (gu : Candidate n A u) (gv : Candidate n A v) (hu : losses p u < gains p u) (hv : gains p v < losses p v) where
  pub pair_joined : Joined n (shortfall p v) u (excess p u) v (pair_row p u v)
  pair_joined = grind (arith, join)

  pub pair_candidate : Candidate n (p ∷ A) (pair_row p u v)
  pair_candidate =
      let j : Joined n (shortfall p v) u (excess p u) v (pair_row p u v) = pair_joined in
      record {
        long = j.long;
        cycle = (
          balance j.g (gains p u) (losses p u) (gains p v) (losses p v) (gains p (pair_row p u v)) (losses p (pair_row p u v)) j.pos hu hv
              (dot_combines p.gain j.g (pair_row p u v) (shortfall p v) u (excess p u) v 0 j.combines)
              (dot_combines p.loss j.g (pair_row p u v) (shortfall p v) u (excess p u) v 0 j.combines),
          cycle_whole j.g (pair_row p u v) (shortfall p v) u (excess p u) v j.combines A j.pos gu.cycle gv.cycle,
        );
        nonzero = (gu.nonzero.0, left_within n (shortfall p v) u (excess p u) v (pair_row p u v) j (omega arith) gu.nonzero.0 gu.nonzero.1);
        primitive = j.primitive;
      }
