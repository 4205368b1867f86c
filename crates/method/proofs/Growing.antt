-- Which rows are made so far, from the first with the sum 0 to the last pair: in the end those of the method's step.
use Rattle.std.proofs.Common.{◌≡◌, ℕ, ◌+◌, ◌<◌, ◌≤◌, ◌⊎◌, ◌↔◌, List, length, ℤ, pos, ◌<ℤ◌, sym, refl, ap, ◌∙◌, subst, inl, inr, ⊎_elim, not-suc-le-zero, arith}
use Rattle.std.proofs.lemmas.Bool.{cases_lt}
use Rattle.cycle_theory.specs.Nets.{Counts, Mem, sum, Ascending}
use Rattle.cycle_theory.specs.Method.{combined, divided, step}
use Rattle.cycle_theory.specs.Theorems.{WithinPair, NoThird}
use Rattle.cycle_theory.specs.Flows.{Flow, flow, Cover, Chosen}
use Rattle.cycle_theory.proofs.Ascending.{determined}
use Rattle.cycle_theory.proofs.Integers.{balance_said, gains_said, loses_said, pair_flow, step_flow}
use Rattle.cycle_theory.proofs.Steps.{stepped, step_members, pairs_apart, pair_new}
use Rattle.method.specs.Ascents.{row_at}
use Rattle.method.specs.Surveys.{Third}
use Rattle.method.specs.Building.{Adjacent, Even, Pair, SoFar}
use Rattle.method.proofs.Placing.{mem_row, mem_index, index_once}
use Rattle.method.proofs.Signs.{gains_sum, loses_sum}

module _ (p : List ℤ) (rows : List Counts) (a b : ℕ) where
  -- where the rows a and b make no row
  pub next_same : (Adjacent p rows a b → ⊥) → (z : Counts) → SoFar p rows a b z ↔ SoFar p rows a (b + 1) z
  next_same none z = (there, back)
    where
      there : SoFar p rows a b z → SoFar p rows a (b + 1) z
      there (inl e) = inl e
      there (inr (i, j, inl l, q)) = inr (i, j, inl l, q)
      there (inr (i, j, inr l, q)) = inr (i, j, inr (l.0, (let k = l.1 in omega (arith, k))), q)

      back : SoFar p rows a (b + 1) z → SoFar p rows a b z
      back (inl e) = inl e
      back (inr (i, j, inl l, q)) = inr (i, j, inl l, q)
      back (inr (i, j, inr l, q)) = ⊎_elim
          (λ (k : j < b). inr (i, j, inr (l.0, k), q))
          (λ (k : b ≤ j).
          let e : j ≡ b = let h = l.1 in omega (arith, h, k) in
          absurd (none (subst (λ (y : ℕ). Adjacent p rows a y) e (subst (λ (x : ℕ). Adjacent p rows x j) l.0 q.adjacent))))
          (cases_lt j b)

  pub next_more : (x : Counts) → Pair p rows a b x → (z : Counts) → ((z ≡ x) ⊎ SoFar p rows a b z) ↔ SoFar p rows a (b + 1) z
  next_more x q z = (there, back)
    where
      there : (z ≡ x) ⊎ SoFar p rows a b z → SoFar p rows a (b + 1) z
      there (inl e) = inr (a, b, inr (refl, omega arith), subst (λ (y : Counts). Pair p rows a b y) (sym e) q)
      there (inr (inl e)) = inl e
      there (inr (inr (i, j, inl l, s))) = inr (i, j, inl l, s)
      there (inr (inr (i, j, inr l, s))) = inr (i, j, inr (l.0, (let k = l.1 in omega (arith, k))), s)

      back : SoFar p rows a (b + 1) z → (z ≡ x) ⊎ SoFar p rows a b z
      back (inl e) = inr (inl e)
      back (inr (i, j, inl l, s)) = inr (inr (i, j, inl l, s))
      back (inr (i, j, inr l, s)) = ⊎_elim
          (λ (k : j < b). inr (inr (i, j, inr (l.0, k), s)))
          (λ (k : b ≤ j).
          let e : j ≡ b = let h = l.1 in omega (arith, h, k) in
          let t : Pair p rows a b z = subst (λ (y : ℕ). Pair p rows a y z) e (subst (λ (w : ℕ). Pair p rows w j z) l.0 s) in
          inl (t.is ∙ sym q.is))
          (cases_lt j b)

-- after all pairs of row a
pub pairs_done : (p : List ℤ) (rows : List Counts) (a n : ℕ) → n ≡ length rows → (z : Counts) → SoFar p rows a n z ↔ SoFar p rows (a + 1) 0 z
pairs_done p rows a n many z = (there, back)
  where
    there : SoFar p rows a n z → SoFar p rows (a + 1) 0 z
    there (inl e) = inl e
    there (inr (i, j, inl l, s)) = inr (i, j, inl (omega (arith, l)), s)
    there (inr (i, j, inr l, s)) = inr (i, j, inl (let k = l.0 in omega (arith, k)), s)

    back : SoFar p rows (a + 1) 0 z → SoFar p rows a n z
    back (inl e) = inl e
    back (inr (i, j, inr l, s)) = absurd (not-suc-le-zero l.1)
    back (inr (i, j, inl l, s)) = ⊎_elim
        (λ (k : i < a). inr (i, j, inl k, s))
        (λ (k : a ≤ i). inr (i, j, inr (omega (arith, k, l), (let h = s.second in omega (arith, h, many))), s))
        (cases_lt i a)

-- the rows with the sum 0
module _ (p : List ℤ) (rows : List Counts) (k : ℕ) where
  pub even_same : (sum p (row_at rows k) ≡ pos 0 → ⊥) → (z : Counts) → Even p rows k z ↔ Even p rows (k + 1) z
  even_same none z = (there, back)
    where
      there : Even p rows k z → Even p rows (k + 1) z
      there (i, l, q, s, e) = (i, omega (arith, l), q, s, e)

      back : Even p rows (k + 1) z → Even p rows k z
      back (i, l, q, s, e) = ⊎_elim (λ (m : i < k). (i, m, q, s, e)) (λ (m : k ≤ i). let d : i ≡ k = omega (arith, m, l) in absurd (none (subst (λ (y : ℕ). sum p (row_at rows y) ≡ pos 0) d s))) (cases_lt i k)

  module _ (here : k < length rows) (x : Counts) (is : x ≡ row_at rows k) where
    pub even_more : sum p (row_at rows k) ≡ pos 0 → (z : Counts) → ((z ≡ x) ⊎ Even p rows k z) ↔ Even p rows (k + 1) z
    even_more zero z = (there, back)
      where
        there : (z ≡ x) ⊎ Even p rows k z → Even p rows (k + 1) z
        there (inl e) = (k, omega arith, here, zero, e ∙ is)
        there (inr (i, l, q, s, e)) = (i, omega (arith, l), q, s, e)

        back : Even p rows (k + 1) z → (z ≡ x) ⊎ Even p rows k z
        back (i, l, q, s, e) = ⊎_elim (λ (m : i < k). inr (i, m, q, s, e)) (λ (m : k ≤ i). let d : i ≡ k = omega (arith, m, l) in inl (e ∙ ap (row_at rows) d ∙ sym is)) (cases_lt i k)

    pub even_new : Ascending rows → Even p rows k x → ⊥
    even_new asc (i, l, q, s, e) = let d = index_once rows asc k i here q (sym is ∙ e) in omega (arith, d, l)

pub even_done : (p : List ℤ) (rows : List Counts) (n : ℕ) → n ≡ length rows → (z : Counts) → Even p rows n z ↔ SoFar p rows 0 0 z
even_done p rows n many z = (there, back)
  where
    there : Even p rows n z → SoFar p rows 0 0 z
    there (i, l, q, s, e) = inl (i, q, q, s, e)

    back : SoFar p rows 0 0 z → Even p rows n z
    back (inl (i, l, q, s, e)) = (i, omega (arith, l, many), q, s, e)
    back (inr (i, j, inl l, s)) = absurd (not-suc-le-zero l)
    back (inr (i, j, inr l, s)) = absurd (not-suc-le-zero l.1)

-- a third row by its index is a third row
module _ (rows : List Counts) (asc : Ascending rows) (a b : ℕ) (ha : a < length rows) (hb : b < length rows) where
  no_third : (Third rows a b → ⊥) → NoThird rows (row_at rows a) (row_at rows b)
  no_third none w m na nb i =
      let r = mem_index rows w m in
      let e : w ≡ row_at rows r.0 = r.2 in
      none (
        r.0,
        r.1,
        (λ q. na (e ∙ ap (row_at rows) q)),
        (λ q. nb (e ∙ ap (row_at rows) q)),
        subst (λ (z : Counts). WithinPair z (row_at rows a) (row_at rows b)) e i,
      )

  third_no : NoThird rows (row_at rows a) (row_at rows b) → Third rows a b → ⊥
  third_no alone (k, hk, na, nb, c) =
      alone (row_at rows k) (mem_row rows k hk)
      (λ e. na (index_once rows asc k a hk ha e))
      (λ e. nb (index_once rows asc k b hk hb e))
      c

-- the rows of places with the flows A
module _ (A : List Flow) (rows : List Counts) (cover : Cover 24 A rows) (asc : Ascending rows) (p : List ℤ) where
  -- no row is made twice
  pub pair_once : (a b : ℕ) (x : Counts) → Pair p rows a b x → SoFar p rows a b x → ⊥
  pair_once a b x q (inl (i, h, k, zero, e)) =
      pair_new 24 A rows cover (flow p) (row_at rows a) (row_at rows b) (mem_row rows a q.first) (mem_row rows b q.second)
      (gains_said p (row_at rows a) q.adjacent.gains) (loses_said p (row_at rows b) q.adjacent.loses)
      (subst (λ (z : Counts). Mem z rows) (sym e ∙ q.is ∙ pair_flow p (row_at rows a) (row_at rows b)) (mem_row rows i k))
  pair_once a b x q (inr (i, j, early, s)) =
      let t = pairs_apart 24 A rows cover (flow p) (row_at rows a) (row_at rows b) (row_at rows i) (row_at rows j)
      (mem_row rows a q.first) (mem_row rows b q.second) (mem_row rows i s.first) (mem_row rows j s.second)
      (gains_said p (row_at rows a) q.adjacent.gains) (loses_said p (row_at rows b) q.adjacent.loses)
      (gains_said p (row_at rows i) s.adjacent.gains) (loses_said p (row_at rows j) s.adjacent.loses)
      (no_third rows asc a b q.first q.second q.adjacent.alone)
      (sym (pair_flow p (row_at rows a) (row_at rows b)) ∙ sym q.is ∙ s.is ∙ pair_flow p (row_at rows i) (row_at rows j)) in
      let ea : a ≡ i = index_once rows asc a i q.first s.first t.0 in
      let eb : b ≡ j = index_once rows asc b j q.second s.second t.1 in
      ⊎_elim (λ (l : i < a). omega (arith, l, ea)) (λ (l : (i ≡ a) × (j < b)). let k = l.1 in omega (arith, k, eb)) early

  pair_chosen : (a b : ℕ) (z : Counts) → Pair p rows a b z → Chosen (flow p) rows z
  pair_chosen a b z q = inr (
    row_at rows a,
    row_at rows b,
    mem_row rows a q.first,
    mem_row rows b q.second,
    gains_said p (row_at rows a) q.adjacent.gains,
    loses_said p (row_at rows b) q.adjacent.loses,
    no_third rows asc a b q.first q.second q.adjacent.alone,
    q.is ∙ pair_flow p (row_at rows a) (row_at rows b),
  )

  -- all of it
  all_done : (n : ℕ) → n ≡ length rows → (z : Counts) → SoFar p rows n 0 z ↔ Chosen (flow p) rows z
  all_done n many z = (there, back)
    where
      there : SoFar p rows n 0 z → Chosen (flow p) rows z
      there (inl (i, h, k, zero, e)) = inl (subst (λ (y : Counts). Mem y rows) (sym e) (mem_row rows i k), (balance_said p z).0 (ap (sum p) e ∙ zero))
      there (inr (i, j, early, s)) = pair_chosen i j z s

      back : Chosen (flow p) rows z → SoFar p rows n 0 z
      back (inl (m, bal)) = let r = mem_index rows z m in inl (r.0, r.1, r.1, ap (sum p) (sym r.2) ∙ (balance_said p z).1 bal, r.2)
      back (inr (u, v, mu, mv, hu, hv, alone, e)) =
          let r = mem_index rows u mu in
          let s = mem_index rows v mv in
          inr (
            r.0,
            s.0,
            inl (let h = r.1 in omega (arith, h, many)),
            record {
              first = r.1;
              second = s.1;
              adjacent = record {
                gains = subst (λ (x : Counts). pos 0 <ℤ sum p x) r.2 (gains_sum p u hu);
                loses = subst (λ (x : Counts). sum p x <ℤ pos 0) s.2 (loses_sum p v hv);
                alone = third_no rows asc r.0 s.0 r.1 s.1
                    (subst (λ (x : Counts). NoThird rows x (row_at rows s.0)) r.2 (subst (λ (y : Counts). NoThird rows u y) s.2 alone));
              };
              is = e ∙ sym (pair_flow p u v) ∙ ap (λ (x : Counts). divided (combined p x v)) r.2 ∙ ap (λ (y : Counts). divided (combined p (row_at rows r.0) y)) s.2;
            },
          )

  -- a pair's row is one of the step's
  pub pair_in_step : (a b : ℕ) (z : Counts) → Pair p rows a b z → Mem z (step p rows)
  pair_in_step a b z q = subst (λ (l : List Counts). Mem z l) (sym (step_flow p rows)) ((step_members 24 A rows cover (flow p) z).1 (pair_chosen a b z q))

  -- an ascending list of exactly these rows is the step
  pub made_is_step : (n : ℕ) → n ≡ length rows → (made : List Counts) → Ascending made → ((z : Counts) → Mem z made ↔ SoFar p rows n 0 z) → made ≡ step p rows
  made_is_step n many made up exactly =
      determined made _ up (stepped 24 A rows cover (flow p)).1 (λ z. (
        (λ m. (step_members 24 A rows cover (flow p) z).1 ((all_done n many z).0 ((exactly z).0 m))),
        (λ m. (exactly z).1 ((all_done n many z).1 ((step_members 24 A rows cover (flow p) z).0 m))),
      ))
      ∙ sym (step_flow p rows)
