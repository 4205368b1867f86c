-- The place sum: one effect more, and how large it can be.
use Rattle.std.proofs.Common.{◌≡◌, ℕ, zero, suc, ◌+◌, ◌*◌, ◌^◌, ◌<◌, ◌≤◌, false, List, [], ◌∷◌, length, get_or, take, ℤ, pos, negsuc, ◌+ℤ◌, ◌*ℤ◌, neg_ℤ, nat_abs, ◌≤ℤ◌, refl, sym, ap, ◌∙◌, subst, le_of_suc-le-suc, not-suc-le-zero, add-one, arith, length-take, w32, w64, SFits, to_z, of_z}
use lib.IntN.{negsuc-*ℤ-pos, *ℤ-zero}
use Rattle.std.proofs.lemmas.Nat.{mul-le}
use Rattle.std.proofs.lemmas.Int.{ints, to_z-of_z}
use Rattle.std.proofs.lemmas.Bool.{ltb-false}
use Rattle.cycle_theory.specs.Nets.{sum}
use Rattle.method.specs.declared.place.Place.{Place}
use Rattle.method.specs.Effects.{outside, some}
use Rattle.method.specs.Places.{effects_of}
use Rattle.method.proofs.Outside.{mild_each}

-- z lies between -b and b
pub record Between (b : ℕ) (z : ℤ) : Type 0 where
  pub low : neg_ℤ (pos b) ≤ℤ z
  pub high : z ≤ℤ pos b

between_fits : (b : ℕ) (z : ℤ) → Between b z → b < 2 ^ 63 → SFits w64 z
between_fits b (pos n) w h = record { sfits = let p = w.high in omega (arith, ints) }
between_fits b (negsuc n) w h = record { sfits = let p = w.low in omega (arith, ints) }

between_plus : (b d : ℕ) (y z : ℤ) → Between b y → Between d z → Between (b + d) (y +ℤ z)
between_plus b d y z v w = record {
  low = let p = v.low in let q = w.low in omega (arith, ints);
  high = let p = v.high in let q = w.high in omega (arith, ints);
}

mild_between : (e : ℤ) → outside e ≡ false → Between 1000 e
mild_between (pos n) mild = let h = ltb-false 1000 n mild in record { low = omega (arith, ints); high = omega (arith, ints) }
mild_between (negsuc n) mild = let h = ltb-false 1000 (suc n) mild in record { low = omega (arith, ints); high = omega (arith, ints) }

product_between : (m : ℕ) (e : ℤ) (k : ℕ) → outside e ≡ false → k ≤ m → Between (1000 * m) (e *ℤ pos k)
product_between m (pos n) k mild h =
    let l = mul-le n k 1000 m (ltb-false 1000 n mild) h in
    record { low = omega (arith, ints, l); high = omega (arith, ints, l) }
product_between m (negsuc n) k mild h =
    let l = mul-le (suc n) k 1000 m (ltb-false 1000 (suc n) mild) h in
    let e = negsuc-*ℤ-pos n k in
    record { low = rw e (omega (arith, ints, l)); high = rw e (omega (arith, ints, l)) }

-- the factors as the code casts them
cast : (e : ℤ) (k : ℕ) → outside e ≡ false → k < 2 ^ 32 → to_z w64 (of_z w64 (to_z w32 (of_z w32 e))) *ℤ to_z w64 k ≡ e *ℤ pos k
cast e k mild h =
    let w = mild_between e mild in
    let low = w.low in
    let high = w.high in
    let a : to_z w64 (of_z w64 (to_z w32 (of_z w32 e))) ≡ e = omega (arith, ints) in
    let b : to_z w64 k ≡ pos k = omega (arith, ints) in
    ap (λ x. x *ℤ to_z w64 k) a ∙ ap (λ y. e *ℤ y) b

-- one effect more
sum_more : (p : List ℤ) (x : List ℕ) (j : ℕ) → j < length p → sum (take (suc j) p) x ≡ sum (take j p) x +ℤ get_or p j (pos 0) *ℤ pos (get_or x j 0)
sum_more [] x j h = absurd (not-suc-le-zero h)
sum_more (e ∷ p) [] zero h = let z = *ℤ-zero e in omega (arith, ints, z)
sum_more (e ∷ p) [] (suc j) h = let z = *ℤ-zero (get_or p j (pos 0)) in omega (arith, ints, z)
sum_more (e ∷ p) (c ∷ x) zero h = omega (arith, ints)
sum_more (e ∷ p) (c ∷ x) (suc j) h = let r = sum_more p x j (le_of_suc-le-suc h) in omega (arith, ints, r)

-- the effects of a place are few, and in range
module _ (place : Place) (p : List ℤ) (is : p ≡ effects_of place) where
  pub few_effects : length p ≤ 24
  few_effects = let l = ap (λ (q : List ℤ). length q) is ∙ length-take place.effects.count place.effects.slots in omega (arith, l, place.effects.few)

  mild_effects : (j : ℕ) → j < length p → outside (get_or p j (pos 0)) ≡ false
  mild_effects = mild_each p (subst (λ (q : List ℤ). some outside q ≡ false) (sym is) place.mild)

-- one turn of the loop over the effects
module _ (place : Place) (p : List ℤ) (x : List ℕ) (j : ℕ) (is : p ≡ effects_of place) (here : j < length p) (small : get_or x j 0 < 2 ^ 32) where
  abbrev factors : ℤ
  factors = to_z w64 (of_z w64 (to_z w32 (of_z w32 (get_or p j (pos 0))))) *ℤ to_z w64 (get_or x j 0)

  is_product : factors ≡ get_or p j (pos 0) *ℤ pos (get_or x j 0)
  is_product = cast (get_or p j (pos 0)) (get_or x j 0) (mild_effects place p is j here) small

  product_here : Between (1000 * 4294967295) (get_or p j (pos 0) *ℤ pos (get_or x j 0))
  product_here = product_between 4294967295 (get_or p j (pos 0)) (get_or x j 0) (mild_effects place p is j here) (omega arith)

  pub product_fits : SFits w64 factors
  product_fits = subst (SFits w64) (sym is_product) (between_fits (1000 * 4294967295) _ product_here (omega arith))

  module _ (s : ℤ) (so_far : s ≡ sum (take j p) x) (bound : Between (4294967295000 * j) s) where
    total_is : s +ℤ to_z w64 (of_z w64 factors) ≡ s +ℤ get_or p j (pos 0) *ℤ pos (get_or x j 0)
    total_is = ap (λ (z : ℤ). s +ℤ z) (to_z-of_z w64 factors product_fits ∙ is_product)

    between_more : Between (4294967295000 * (j + 1)) (s +ℤ to_z w64 (of_z w64 factors))
    between_more =
        let w = between_plus (4294967295000 * j) (1000 * 4294967295) s (get_or p j (pos 0) *ℤ pos (get_or x j 0)) bound product_here in
        let e : 4294967295000 * j + 1000 * 4294967295 ≡ 4294967295000 * (j + 1) = omega arith in
        subst (λ (b : ℕ). Between b (s +ℤ to_z w64 (of_z w64 factors))) e (subst (Between (4294967295000 * j + 1000 * 4294967295)) (sym total_is) w)

    pub total_fits : SFits w64 (s +ℤ to_z w64 (of_z w64 factors))
    total_fits = let few = few_effects place p is in between_fits (4294967295000 * (j + 1)) _ between_more (omega (arith, few))

    pub total_more : (to_z w64 (of_z w64 (s +ℤ to_z w64 (of_z w64 factors))) ≡ sum (take (j + 1) p) x) × Between (4294967295000 * (j + 1)) (to_z w64 (of_z w64 (s +ℤ to_z w64 (of_z w64 factors))))
    total_more =
        let e = to_z-of_z w64 (s +ℤ to_z w64 (of_z w64 factors)) total_fits in (
          e ∙ total_is ∙ ap (λ (z : ℤ). z +ℤ get_or p j (pos 0) *ℤ pos (get_or x j 0)) so_far ∙ sym (sum_more p x j here) ∙ ap (λ (k : ℕ). sum (take k p) x) (sym (add-one j)),
          subst (Between (4294967295000 * (j + 1))) (sym e) between_more,
        )

-- how large the sum of a place is on a row that a ledger may hold
small_between : (p : List ℤ) (x : List ℕ) → ((j : ℕ) → j < length p → outside (get_or p j (pos 0)) ≡ false) → ((j : ℕ) → j < length p → get_or x j 0 ≤ 1048575) → Between (1048575000 * length p) (sum p x)
small_between [] x mild small = record { low = omega (arith, ints); high = omega (arith, ints) }
small_between (e ∷ p) [] mild small = record { low = omega (arith, ints); high = omega (arith, ints) }
small_between (e ∷ p) (c ∷ x) mild small =
    let w = between_plus (1000 * 1048575) (1048575000 * length p) (e *ℤ pos c) (sum p x)
    (product_between 1048575 e c (mild 0 (omega arith)) (small 0 (omega arith)))
    (small_between p x (λ j h. mild (suc j) (omega arith)) (λ j h. small (suc j) (omega arith))) in
    let k : 1000 * 1048575 + 1048575000 * length p ≡ 1048575000 * length (e ∷ p) = omega arith in
    subst (λ (b : ℕ). Between b ((e *ℤ pos c) +ℤ sum p x)) k w

between_abs : (b : ℕ) (z : ℤ) → Between b z → nat_abs z ≤ b
between_abs b (pos n) w = let h = w.high in omega (arith, ints)
between_abs b (negsuc n) w = let h = w.low in omega (arith, ints)

pub sum_bounded : (place : Place) (x : List ℕ) → ((j : ℕ) → j < 24 → get_or x j 0 ≤ 1048575) → nat_abs (sum (effects_of place) x) ≤ 25165800000
sum_bounded place x small =
    let p = effects_of place in
    let few = few_effects place p refl in
    let h = between_abs (1048575000 * length p) (sum p x) (small_between p x (mild_effects place p refl) (λ j l. small j (omega (arith, l, few)))) in
    omega (arith, h, few)
