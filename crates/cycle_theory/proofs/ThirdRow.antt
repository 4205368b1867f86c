-- The row of a pair is kept just when no third row uses only steps which the pair uses (kept_of_no_third, no_third_of_kept).
use Rattle.std.proofs.Common.{rules, ◌≡◌, ℕ, ◌+◌, ◌*◌, ◌<◌, ◌≤◌, ◌⊎◌, List, sym, refl, ap, ◌∙◌, subst, inl, inr, mul-le-mul_right, eq-zero-or-pos, mul-pos, arith}
use Rattle.std.proofs.lemmas.Bool.{cases_order}
use Rattle.cycle_theory.specs.Nets.{Counts, at, Mem, Within}
use Rattle.cycle_theory.specs.Theorems.{WithinPair, NoThird}
use Rattle.cycle_theory.specs.Flows.{Combines, Flow, gains, losses, Cover, excess, shortfall, pair_row, Born}
use Rattle.cycle_theory.proofs.Rows.{split, equal?}
use Rattle.cycle_theory.proofs.Combining.{Joined, left_within, right_within, joined_within, pair_joined}

-- Two combinations of one row z, g × z = r × u + s × v and g' × z = r × w + s' × v, at one step:
-- where the second has no more of v, it has some of w wherever the first has some of u.
cross : (g r u s v g' w s' z : ℕ) → g * z ≡ r * u + s * v → g' * z ≡ r * w + s' * v → g * s' ≤ g' * s → 0 < g' → 0 < r → 0 < u → 0 < w
cross g r u s v g' w s' z e f h hg hr hu = elim (eq-zero-or-pos w) [
  | inr p ↦ p
  | inl q ↦
      let a : g' * (g * z) ≡ g' * (r * u + s * v) = ap (λ (m : ℕ). g' * m) e in
      let b : g * (g' * z) ≡ g * (r * w + s' * v) = ap (λ (m : ℕ). g * m) f in
      let c : (g * s') * v ≤ (g' * s) * v = mul-le-mul_right v h in
      let d : 0 < g' * (r * u) = mul-pos hg (mul-pos hr hu) in
      let k : (g * r) * w ≡ (g * r) * 0 = ap (λ (m : ℕ). (g * r) * m) q in
      omega arith
]

-- rows that cover the cycles of the places A, one place p more, and a pair of rows, of which p gains by u and loses by v
module _ (n : ℕ) (A : List Flow) (R : List Counts) (i : Cover n A R) (p : Flow) (u v : Counts) (mu : Mem u R) (mv : Mem v R) (hu : losses p u < gains p u) (hv : gains p v < losses p v) where
  joined : Joined n (shortfall p v) u (excess p u) v (pair_row p u v)
  joined = grind (arith, pair_joined)

  -- the pair's row uses the steps of both, and no other
  pub first_row_within : Within u (pair_row p u v)
  first_row_within = search (rules, joined)

  pub second_row_within : Within v (pair_row p u v)
  second_row_within = search (rules, joined)

  pub pair_within : (w : Counts) → WithinPair w u v → Within w (pair_row p u v)
  pair_within w h k q = grind (arith, first_row_within, second_row_within)

  pub within_pair : (w : Counts) → Within w (pair_row p u v) → WithinPair w u v
  within_pair w b k q = search (rules, joined)

  -- without a third row, a row within the pair is one of the two
  pub one_of_pair : NoThird R u v → (w : Counts) → Mem w R → WithinPair w u v → (w ≡ u) ⊎ (w ≡ v)
  one_of_pair alone w m h = elim (equal? w u) [
    | yes e ↦ inl e
    | no f ↦ elim (equal? w v) [ yes e ↦ inr e | no g ↦ absurd (alone w m f g h) ]
  ]

  -- Without a third row, whatever is born within the pair's row is that row: no balanced row is one of the two,
  -- and of another pair both rows stand within this one, so they are the same two.
  pub kept_of_no_third : NoThird R u v → (z : Counts) → Born p R z → Within z (pair_row p u v) → z ≡ pair_row p u v
  kept_of_no_third alone z (inl t) b = search (rules, one_of_pair, within_pair)
  kept_of_no_third alone z (inr t) b =
      let j : Joined n (shortfall p t.1) t.0 (excess p t.0) t.1 (pair_row p t.0 t.1) = pair_joined n A p t.0 t.1 (i.good t.0 t.2) (i.good t.1 t.3) t.4 t.5 in
      let b' : Within (pair_row p t.0 t.1) (pair_row p u v) = subst (λ (x : Counts). Within x (pair_row p u v)) t.6 b in
      let wu : WithinPair t.0 u v = within_pair t.0 (λ k q. b' k (left_within n (shortfall p t.1) t.0 (excess p t.0) t.1 (pair_row p t.0 t.1) j (omega (arith, t.5)) k q)) in
      let wv : WithinPair t.1 u v = within_pair t.1 (λ k q. b' k (right_within n (shortfall p t.1) t.0 (excess p t.0) t.1 (pair_row p t.0 t.1) j (omega (arith, t.4)) k q)) in
      let eu : t.0 ≡ u = elim (one_of_pair alone t.0 t.2 wu) [ inl e ↦ e | inr e ↦ absurd (omega (arith, hv, t.4, ap (gains p) e, ap (losses p) e)) ] in
      let ev : t.1 ≡ v = elim (one_of_pair alone t.1 t.3 wv) [ inr e ↦ e | inl e ↦ absurd (omega (arith, hu, t.5, ap (gains p) e, ap (losses p) e)) ] in
      t.6 ∙ ap (λ (x : Counts). pair_row p x t.1) eu ∙ ap (λ (x : Counts). pair_row p u x) ev

  -- If the pair's row is kept, a third row w within it cannot be. A balanced w would be the pair's row, which has u within it.
  -- Else w makes a row with v, or with u, that stands within the pair's row and so is equal to it; the two combinations of one
  -- row, compared, have u within w or w within u (or the same of v), and rows that cover the cycles are not within one another.
  pub no_third_of_kept : ((z : Counts) → Born p R z → Within z (pair_row p u v) → z ≡ pair_row p u v) → NoThird R u v
  no_third_of_kept kept w m nu nv h = elim (cases_order (gains p w) (losses p w)) [
    | inl e ↦
        let q : w ≡ pair_row p u v = kept w (inl (m, e)) (pair_within w h) in
        nu (sym (i.apart u w mu m (subst (λ (x : Counts). Within u x) (sym q) first_row_within)))
    | inr (inr gt) ↦
        let j : Joined n (shortfall p v) w (excess p w) v (pair_row p w v) = pair_joined n A p w v (i.good w m) (i.good v mv) gt hv in
        let q : pair_row p w v ≡ pair_row p u v = kept (pair_row p w v) (inr (w, v, m, mv, gt, hv, refl)) (joined_within n (shortfall p v) w (excess p w) v (pair_row p w v) j (pair_row p u v) (pair_within w h) second_row_within) in
        let l : Combines j.g (pair_row p u v) (shortfall p v) w (excess p w) v = subst (λ (x : Counts). Combines j.g x (shortfall p v) w (excess p w) v) q j.combines in
        elim (split (joined.g * (excess p w)) (j.g * (excess p u))) [
          | inl le ↦ nu (sym (i.apart u w mu m (λ k a. cross joined.g (shortfall p v) (at u k) (excess p u) (at v k) j.g (at w k) (excess p w) (at (pair_row p u v) k) (joined.combines k) (l k) le j.pos (omega arith) a)))
          | inr lt ↦ nu (i.apart w u m mu (λ k a. cross j.g (shortfall p v) (at w k) (excess p w) (at v k) joined.g (at u k) (excess p u) (at (pair_row p u v) k) (l k) (joined.combines k) (omega arith) joined.pos (omega arith) a))
        ]
    | inr (inl lt) ↦
        let j : Joined n (shortfall p w) u (excess p u) w (pair_row p u w) = pair_joined n A p u w (i.good u mu) (i.good w m) hu lt in
        let q : pair_row p u w ≡ pair_row p u v = kept (pair_row p u w) (inr (u, w, mu, m, hu, lt, refl)) (joined_within n (shortfall p w) u (excess p u) w (pair_row p u w) j (pair_row p u v) first_row_within (pair_within w h)) in
        let l : Combines j.g (pair_row p u v) (shortfall p w) u (excess p u) w = subst (λ (x : Counts). Combines j.g x (shortfall p w) u (excess p u) w) q j.combines in
        elim (split (joined.g * (shortfall p w)) (j.g * (shortfall p v))) [
          | inl le ↦ nv (sym (i.apart v w mv m (λ k a. cross joined.g (excess p u) (at v k) (shortfall p v) (at u k) j.g (at w k) (shortfall p w) (at (pair_row p u v) k) (omega (arith, joined.combines k)) (omega (arith, l k)) le j.pos (omega arith) a)))
          | inr lt' ↦ nv (i.apart w v m mv (λ k a. cross j.g (excess p u) (at w k) (shortfall p w) (at u k) joined.g (at v k) (shortfall p v) (at (pair_row p u v) k) (omega (arith, l k)) (omega (arith, joined.combines k)) (omega arith) joined.pos (omega arith) a))
        ]
  ]
