-- What `third & !pair == 0` says of the rows.
use Rattle.std.proofs.Common.{◌≡◌, ℕ, zero, suc, ◌+◌, ◌-◌, ◌*◌, ◌/◌, ◌%◌, ◌^◌, ◌<◌, ◌≤◌, Bool, true, not, ◌&&◌, cond, eqb, ℤ, List, length, get_or, Decides, sym, ap, ◌∙◌, subst, ⊎_elim, pow-suc, arith, eq-eqb, ne_eqb, eqb-true}
use native.Mathlib.Nat.{zero-div}
use lib.Bits.{bit_and, bit_or, and_shr, and_mod, or_shr, or_mod, and_le_l, or_lt, and_zero_r}
use Rattle.std.proofs.lemmas.Nat.{shr-shr}
use Rattle.std.proofs.lemmas.Bool.{cases_eq, cases_lt, and_parts, and_from, not-true, not_from_false}
use Rattle.cycle_theory.specs.Nets.{Counts, at}
use Rattle.cycle_theory.specs.Theorems.{WithinPair}
use Rattle.cycle_theory.proofs.Rows.{at_past}
use Rattle.ledger.specs.Rows.{Mask}
use Rattle.std.specs.List.{list_any, Any}
use Rattle.std.proofs.lemmas.List.Folds.{Any-from_list_any, list_any_at}
use borrow.Author.Tests.{both_ways}
use Rattle.method.specs.Ascents.{row_at}
use Rattle.method.proofs.Surveying.{told_here}
use Rattle.method.specs.declared.reading.Reading.{Reading}
use Rattle.method.specs.Surveys.{Told, Surveyed, Third}

-- whatever step of the 24 `row` counts, a or b counts too
abbrev Covered : List ℕ → List ℕ → List ℕ → Type 0
Covered a b row = (j : ℕ) → j < 24 → get_or a j 0 ≡ 0 → get_or b j 0 ≡ 0 → get_or row j 0 ≡ 0

half_bit : (n j : ℕ) → n / 2 ^ suc j % 2 ≡ n / 2 / 2 ^ j % 2
half_bit n j =
    let e : suc j ≡ 1 + j = omega arith in
    ap (λ k. n / 2 ^ k % 2) e ∙ ap (λ k. k % 2) (sym (shr-shr n 1 j))

-- a number all of whose bits are 0
zero_bits : (w n : ℕ) → n < 2 ^ w → ((j : ℕ) → j < w → n / 2 ^ j % 2 ≡ 0) → n ≡ 0
zero_bits zero n h all = omega arith
zero_bits (suc w) n h all =
    let p : 2 ^ suc w ≡ 2 ^ w * 2 = pow-suc 2 w in
    let low = all 0 (omega arith) in
    let up : n / 2 ≡ 0 = zero_bits w (n / 2) (omega (arith, p)) (λ j l. sym (half_bit n j) ∙ all (suc j) (omega arith)) in
    omega (arith, low, up)

-- the other bits
not_bit : (w j p : ℕ) → j < w → p < 2 ^ w → (2 ^ w - 1 - p) / 2 ^ j % 2 ≡ 1 - p / 2 ^ j % 2
not_bit zero j p h l = (let f : ⊥ = omega arith in absurd f)
not_bit (suc w) zero p h l = let e : 2 ^ suc w ≡ 2 ^ w * 2 = pow-suc 2 w in omega (arith, e)
not_bit (suc w) (suc j) p h l =
    let e : 2 ^ suc w ≡ 2 ^ w * 2 = pow-suc 2 w in
    let half : (2 ^ suc w - 1 - p) / 2 ≡ 2 ^ w - 1 - p / 2 = omega (arith, e) in
    half_bit (2 ^ suc w - 1 - p) j ∙ ap (λ n. n / 2 ^ j % 2) half ∙ not_bit w j (p / 2) (omega arith) (omega (arith, e)) ∙ ap (λ n. 1 - n) (sym (half_bit p j))

and_bit : (a b j : ℕ) → bit_and a b / 2 ^ j % 2 ≡ bit_and (a / 2 ^ j % 2) (b / 2 ^ j % 2)
and_bit a b j = ap (λ n. n % 2) (and_shr a b j) ∙ and_mod (a / 2 ^ j) (b / 2 ^ j) 1

or_bit : (a b j : ℕ) → bit_or a b / 2 ^ j % 2 ≡ bit_or (a / 2 ^ j % 2) (b / 2 ^ j % 2)
or_bit a b j = ap (λ n. n % 2) (or_shr a b j) ∙ or_mod (a / 2 ^ j) (b / 2 ^ j) 1

module _ (row : List ℕ) (m : ℕ) (mask : Mask row m) (j : ℕ) (h : j < 24) where
  bit_no : get_or row j 0 ≡ 0 → m / 2 ^ j % 2 ≡ 0
  bit_no e = mask.bits j h ∙ ap (λ b. cond b 0 1) (eq-eqb _ _ e)

  bit_yes : (get_or row j 0 ≡ 0 → ⊥) → m / 2 ^ j % 2 ≡ 1
  bit_yes ne = mask.bits j h ∙ ap (λ b. cond b 0 1) (ne_eqb _ _ ne)

zero_bit : (j : ℕ) → 0 / 2 ^ j % 2 ≡ 0
zero_bit j = ap (λ n. n % 2) (zero-div (2 ^ j))

module _ (row a b : List ℕ) (m x y : ℕ) (mask : Mask row m) (ma : Mask a x) (mb : Mask b y) where
  pair_fits : bit_or x y < 2 ^ 32
  pair_fits = let l = or_lt 24 x y ma.below mb.below in omega (arith, l)

  not_pair : (j : ℕ) → j < 24 → (4294967295 - bit_or x y) / 2 ^ j % 2 ≡ 1 - bit_or (x / 2 ^ j % 2) (y / 2 ^ j % 2)
  not_pair j h = not_bit 32 j (bit_or x y) (omega arith) pair_fits ∙ ap (λ n. 1 - n) (or_bit x y j)

  covered_from : bit_and m (4294967295 - bit_or x y) ≡ 0 → Covered a b row
  covered_from z j h ea eb = ⊎_elim (λ e. e) (λ ne.
      let l : 0 ≡ bit_and (m / 2 ^ j % 2) ((4294967295 - bit_or x y) / 2 ^ j % 2) = sym (ap (λ n. n / 2 ^ j % 2) z ∙ zero_bit j) ∙ and_bit m (4294967295 - bit_or x y) j in
      let n : (4294967295 - bit_or x y) / 2 ^ j % 2 ≡ 1 = not_pair j h ∙ ap (λ k. 1 - bit_or k (y / 2 ^ j % 2)) (bit_no a x ma j h ea) ∙ ap (λ k. 1 - bit_or 0 k) (bit_no b y mb j h eb) in
      let one : 0 ≡ bit_and 1 1 = l ∙ ap (λ k. bit_and k ((4294967295 - bit_or x y) / 2 ^ j % 2)) (bit_yes row m mask j h ne) ∙ ap (λ k. bit_and 1 k) n in
      let f : ⊥ = omega (arith, one) in absurd f) (cases_eq (get_or row j 0) 0)

  -- a step that a or b counts is in the pair
  in_pair : (j : ℕ) → j < 24 → (get_or a j 0 ≡ 0 → get_or b j 0 ≡ 0 → ⊥) → (4294967295 - bit_or x y) / 2 ^ j % 2 ≡ 0
  in_pair j h some = ⊎_elim
      (λ ea. let eb = bit_yes b y mb j h (some ea) in
      not_pair j h ∙ ap (λ k. 1 - bit_or k (y / 2 ^ j % 2)) (bit_no a x ma j h ea) ∙ ap (λ k. 1 - bit_or 0 k) eb)
      (λ na. ⊎_elim
      (λ eb. not_pair j h ∙ ap (λ k. 1 - bit_or k (y / 2 ^ j % 2)) (bit_yes a x ma j h na) ∙ ap (λ k. 1 - bit_or 1 k) (bit_no b y mb j h eb))
      (λ nb. not_pair j h ∙ ap (λ k. 1 - bit_or k (y / 2 ^ j % 2)) (bit_yes a x ma j h na) ∙ ap (λ k. 1 - bit_or 1 k) (bit_yes b y mb j h nb))
      (cases_eq (get_or b j 0) 0))
      (cases_eq (get_or a j 0) 0)

  covered_to : Covered a b row → bit_and m (4294967295 - bit_or x y) ≡ 0
  covered_to c =
      let le = and_le_l m (4294967295 - bit_or x y) in
      let lt = mask.below in
      zero_bits 24 (bit_and m (4294967295 - bit_or x y)) (omega (arith, le, lt))
      (λ j h. and_bit m (4294967295 - bit_or x y) j ∙ ⊎_elim
      (λ e. ap (λ k. bit_and k ((4294967295 - bit_or x y) / 2 ^ j % 2)) (bit_no row m mask j h e))
      (λ ne. ap (λ k. bit_and (m / 2 ^ j % 2) k) (in_pair j h (λ ea eb. ne (c j h ea eb))) ∙ and_zero_r (m / 2 ^ j % 2))
      (cases_eq (get_or row j 0) 0))

covered_within : (u v w : Counts) → length w ≡ 24 → Covered u v w → WithinPair w u v
covered_within u v w l c j h = ⊎_elim
    (λ (i : j < 24). ⊎_elim
    (λ (zu : at u j ≡ 0). ⊎_elim
    (λ (zv : at v j ≡ 0). absurd (let z = c j i zu zv in let f : ⊥ = omega (arith, z, h) in f))
    (λ nv. omega (arith, nv))
    (cases_eq (at v j) 0))
    (λ nu. omega (arith, nu))
    (cases_eq (at u j) 0))
    (λ (i : 24 ≤ j). absurd (let z = at_past w j (omega (arith, l, i)) in let f : ⊥ = omega (arith, z, h) in f))
    (cases_lt j 24)

within_covered : (u v w : Counts) → WithinPair w u v → Covered u v w
within_covered u v w i j h zu zv = ⊎_elim (λ e. e)
    (λ ne. absurd (let k = i j (omega (arith, ne)) in let f : ⊥ = omega (arith, k, zu, zv) in f))
    (cases_eq (at w j) 0)

pub mask_decides : (w u v : Counts) (m x y : ℕ) → length w ≡ 24 → Mask w m → Mask u x → Mask v y → Decides (eqb (bit_and m (4294967295 - bit_or x y)) 0) (WithinPair w u v)
mask_decides w u v m x y wide mw mu mv = (
  (λ t. covered_within u v w wide (covered_from w u v m x y mw mu mv (eqb-true _ _ t))),
  (λ i. eq-eqb _ _ (covered_to w u v m x y mw mu mv (within_covered u v w i))),
)

-- whether the row of a reading is a third one that uses only steps of the two
abbrev pub is_third : Reading → Reading → Reading → Bool
is_third a b r = eqb (bit_and r.mask (4294967295 - bit_or a.mask b.mask)) 0 && (not (eqb r.row a.row) && not (eqb r.row b.row))

module _ (p : List ℤ) (rows : List Counts) (s : List Reading) (a b : Reading) (surveyed : Surveyed p rows s) (ta : Told p rows a) (tb : Told p rows b) where
  third_from : Any (λ r. is_third a b r ≡ true) s → Third rows a.row b.row
  third_from (k, r, l, is, t) =
      let told = told_here p rows s k r surveyed l (sym is) in
      let first = and_parts _ _ t in
      let second = and_parts _ _ first.1 in (
        r.row,
        told.inside,
        (λ e. both_ways _ (not-true _ second.0) (eq-eqb _ _ e)),
        (λ e. both_ways _ (not-true _ second.1) (eq-eqb _ _ e)),
        (mask_decides (row_at rows r.row) (row_at rows a.row) (row_at rows b.row) r.mask a.mask b.mask told.wide told.mask_is ta.mask_is tb.mask_is).0 first.0,
      )

  third_to : Third rows a.row b.row → list_any (is_third a b) s ≡ true
  third_to (k, l, na, nb, within) =
      let r = get_or s k a in
      let here : k < length s = let many = surveyed.many in omega (arith, many, l) in
      let told = surveyed.told k a here in
      let turn : r.row ≡ k = surveyed.in_turn k a here in
      list_any_at (is_third a b) s k a here (and_from _ _
      ((mask_decides (row_at rows r.row) (row_at rows a.row) (row_at rows b.row) r.mask a.mask b.mask told.wide told.mask_is ta.mask_is tb.mask_is).1
      (subst (λ i. WithinPair (row_at rows i) (row_at rows a.row) (row_at rows b.row)) (sym turn) within))
      (and_from _ _ (not_from_false _ (ne_eqb _ _ (λ e. na (sym turn ∙ e)))) (not_from_false _ (ne_eqb _ _ (λ e. nb (sym turn ∙ e))))))

  pub third_decides : (t : Bool) → t ≡ list_any (is_third a b) s → Decides t (Third rows a.row b.row)
  third_decides t is = ((λ e. third_from (Any-from_list_any (is_third a b) s (sym is ∙ e))), (λ third. is ∙ third_to third))
