-- Two rows with no common divisor that are proportional are equal (proportional_equal). Of a row that uses all steps of another
-- as much as possible of the other is taken away, and fewer steps are left in use (lower).
use Rattle.std.proofs.Common.{◌≡◌, ℕ, zero, suc, ◌+◌, ◌-◌, ◌*◌, ◌<◌, ◌≤◌, ◌⊎◌, length, sym, ap, ◌∙◌, inl, inr, not-suc-le-zero, mul-le-mul_right, eq-zero-or-pos, eq-or-lt_of_le, mul-le-mul_left, arith}
use native.Mathlib.Nat.{le_of_mul-le-mul_left, mul-sub, eq_of_mul-eq-mul_left}
use Rattle.cycle_theory.specs.Nets.{Counts, at, Nonzero, Within}
use Rattle.cycle_theory.specs.Method.{tabulate}
use Rattle.cycle_theory.specs.Flows.{Primitive, Combines}
use Rattle.cycle_theory.proofs.Rows.{split, at_past, length_tabulate, at_tabulate_all, equal_rows}
use Rattle.cycle_theory.proofs.Supports.{steps_in_use, fewer_steps}

-- two rows that are multiples of one row, the base
pub record Ray (e f : ℕ → ℕ) : Type 0 where
  pub base : ℕ → ℕ
  pub a : ℕ
  pub b : ℕ
  pub left : (j : ℕ) → e j ≡ a * base j
  pub right : (j : ℕ) → f j ≡ b * base j

ray_flip : {e f : ℕ → ℕ} → Ray e f → Ray f e
ray_flip r = grind arith

-- if e − f and f are multiples of one row, so are e and f
ray_up : (e f : ℕ → ℕ) → ((j : ℕ) → f j ≤ e j) → Ray (λ j. e j - f j) f → Ray e f
ray_up e f h r = record {
  base = r.base;
  a = r.a + r.b;
  b = r.b;
  left = λ j. omega (arith, h j, r.left j, r.right j);
  right = r.right;
}

-- p × e = (p + d) × f: f is at most e, and p × (e − f) = d × f
ray_le : (p d : ℕ) (e f : ℕ) → 0 < p → p * e ≡ (p + d) * f → f ≤ e
ray_le p d e f hp h = le_of_mul-le-mul_left {k = p} (omega arith) hp

ray_less : (p d : ℕ) (e f : ℕ) → 0 < p → p * e ≡ (p + d) * f → p * (e - f) ≡ d * f
ray_less p d e f hp h = omega (arith, mul-sub p e f)

-- proportional rows are multiples of one row: Euclid's algorithm, run on the rows themselves
pub ray : (fuel p s : ℕ) (e f : ℕ → ℕ) → 0 < p → 0 < s → p + s ≤ fuel → ((j : ℕ) → p * e j ≡ s * f j) → Ray e f
ray zero p s e f hp hs hf h = absurd (omega arith)
ray (suc k) p s e f hp hs hf h =
    elim (split s p) [
      | inl le ↦ elim (eq-or-lt_of_le le) [
        | inl eq ↦ record {
          base = f;
          a = 1;
          b = 1;
          left = λ j. eq_of_mul-eq-mul_left p hp (e j) (1 * f j) (omega (arith, h j, ap (λ (m : ℕ). m * f j) eq));
          right = λ j. omega arith;
        }
        | inr lt ↦
            let d : ℕ = p - s in
            let q : (j : ℕ) → s * f j ≡ (s + d) * e j = λ j. sym (h j) ∙ ap (λ (m : ℕ). m * e j) (omega arith) in
            ray_flip (ray_up f e (λ j. ray_le s d (f j) (e j) hs (q j)) (ray k s d (λ j. f j - e j) e hs (omega arith) (omega arith) (λ j. ray_less s d (f j) (e j) hs (q j))))
      ]
      | inr lt ↦
          let d : ℕ = s - p in
          let q : (j : ℕ) → p * e j ≡ (p + d) * f j = λ j. h j ∙ ap (λ (m : ℕ). m * f j) (omega arith) in
          ray_up e f (λ j. ray_le p d (e j) (f j) hp (q j)) (ray k p d (λ j. e j - f j) f hp (omega arith) (omega arith) (λ j. ray_less p d (e j) (f j) hp (q j)))
    ]

-- the two factors divide all counts of their rows, so both are 1
pub proportional_equal : (e f : Counts) (p s : ℕ) → length e ≡ length f → Primitive e → Primitive f → 0 < p → 0 < s → ((j : ℕ) → p * at e j ≡ s * at f j) → e ≡ f
proportional_equal e f p s l ce cf hp hs h =
    let r : Ray (at e) (at f) = ray (p + s) p s (at e) (at f) hp hs (omega arith) h in
    let a1 : r.a ≡ 1 = ce r.a (λ j. (r.base j, r.left j)) in
    let b1 : r.b ≡ 1 = cf r.b (λ j. (r.base j, r.right j)) in
    equal_rows e f l (λ j. r.left j ∙ ap (λ (m : ℕ). m * r.base j) (a1 ∙ sym b1) ∙ sym (r.right j))

-- w is zeros, or j is a step of w at which y j / w j is least
abbrev pub Least : ℕ → (ℕ → ℕ) → (ℕ → ℕ) → Type 0
Least n w y = ((j : ℕ) → j < n → w j ≡ 0) ⊎ ((j : ℕ) × (0 < w j) × (j < n) × ((i : ℕ) → i < n → y j * w i ≤ w j * y i))

pub by_last : (P : ℕ → Type 0) (n : ℕ) → ((i : ℕ) → i < n → P i) → P n → (i : ℕ) → i < suc n → P i
by_last P n f l i h = grind arith

-- of three ratios, the least of the first two and the third
over : (wj yj wn yn wi yi : ℕ) → 0 < wj → wj * yn < yj * wn → yj * wi ≤ wj * yi → yn * wi ≤ wn * yi
over wj yj wn yn wi yi pos h k =
    let a : (wj * yn) * wi ≤ (yj * wn) * wi = mul-le-mul_right wi (omega arith) in
    let b : wn * (yj * wi) ≤ wn * (wj * yi) = mul-le-mul_left wn k in
    le_of_mul-le-mul_left {k = wj} (omega arith) pos

-- one step more
least_step : (n : ℕ) (w y : ℕ → ℕ) → Least n w y → Least (suc n) w y
least_step n w y (inl z) = elim (eq-zero-or-pos (w n)) [
  | inl e ↦ inl (by_last (λ j. w j ≡ 0) n z e)
  | inr pos ↦ inr (n, pos, omega arith, by_last (λ i. y n * w i ≤ w n * y i) n (λ i h. omega (arith, ap (λ (m : ℕ). y n * m) (z i h))) (omega arith))
]
least_step n w y (inr t) = elim (split (y t.0 * w n) (w t.0 * y n)) [
  | inl h ↦ inr (t.0, t.1, omega arith, by_last (λ i. y t.0 * w i ≤ w t.0 * y i) n t.3 h)
  | inr h ↦ inr (
    n,
    elim (eq-zero-or-pos (w n)) [ inl e ↦ omega (arith, ap (λ (m : ℕ). y t.0 * m) e) | inr pos ↦ pos ],
    omega arith,
    by_last (λ i. y n * w i ≤ w n * y i) n (λ i hi. over (w t.0) (y t.0) (w n) (y n) (w i) (y i) t.1 h (t.3 i hi)) (omega arith),
  )
]

pub least : (n : ℕ) (w y : ℕ → ℕ) → Least n w y
least zero w y = inl (λ j h. absurd (not-suc-le-zero h))
least (suc n) w y = least_step n w y (least n w y)

-- the rest p × y − s × w of taking away as much of w as a multiple of y holds
pub record Lower (n : ℕ) (w y : Counts) : Type 0 where
  pub p : ℕ
  pub s : ℕ
  pub pos_p : 0 < p
  pub pos_s : 0 < s
  pub rest : Counts
  pub long : length rest ≡ n
  pub combines : Combines p y 1 rest s w
  pub within : Within rest y
  pub smaller : steps_in_use n (at rest) < steps_in_use n (at y)

-- at the step with the least ratio the rest is 0, so it uses fewer steps
pub lower : (n : ℕ) (w y : Counts) → length w ≡ n → length y ≡ n → Nonzero w → Within w y → Lower n w y
lower n w y lw ly nw b = go (least n (at w) (at y))
  where
    past_w : (i : ℕ) → n ≤ i → at w i ≡ 0
    past_w i h = at_past w i (omega arith)

    past_y : (i : ℕ) → n ≤ i → at y i ≡ 0
    past_y i h = at_past y i (omega arith)

    go : Least n (at w) (at y) → Lower n w y
    go (inl z) = absurd (elim (split n nw.0) [ inl h ↦ omega (arith, past_w nw.0 h, nw.1) | inr h ↦ omega (arith, z nw.0 h, nw.1) ])
    go (inr t) =
        let f : ℕ → ℕ = λ i. at w t.0 * at y i - at y t.0 * at w i in
        let le : (i : ℕ) → at y t.0 * at w i ≤ at w t.0 * at y i = λ i. elim (split n i) [ inl h ↦ omega (arith, ap (λ (m : ℕ). at y t.0 * m) (past_w i h)) | inr h ↦ t.3 i h ] in
        let zf : (i : ℕ) → n ≤ i → f i ≡ 0 = λ i h. omega (arith, ap (λ (m : ℕ). at w t.0 * m) (past_y i h)) in
        let is : (i : ℕ) → at (tabulate n f) i ≡ f i = at_tabulate_all n f zf in
        let bl : Within (tabulate n f) y = λ i h. elim (eq-zero-or-pos (at y i)) [ inl e ↦ omega (arith, is i, ap (λ (m : ℕ). at w t.0 * m) e) | inr pos ↦ pos ] in
        record {
          p = at w t.0;
          s = at y t.0;
          pos_p = t.1;
          pos_s = b t.0 t.1;
          rest = tabulate n f;
          long = length_tabulate n f;
          combines = λ i. omega (arith, is i, le i);
          within = bl;
          smaller = fewer_steps n (at (tabulate n f)) (at y) bl t.0 t.2 (b t.0 t.1) (omega (arith, is t.0));
        }
