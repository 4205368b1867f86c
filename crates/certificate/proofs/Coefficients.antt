-- The coefficients that a certificate tells, when one row more is put into it: they are those of the walk after the round, and within the limit when those are.
use Rattle.std.proofs.Common.{◌≡◌, ℕ, suc, ◌+◌, ◌*◌, ◌<◌, ◌≤◌, true, false, cond, eqb, List, [], ◌∷◌, ◌++◌, map, length, replicate, sym, refl, ap, ◌∙◌, subst, inl, inr, arith}
use lib.ListN.{length-replicate}
use Rattle.std.proofs.lemmas.List.{get_or_append_left, length_push, length-map, get_or-replicate}
use Rattle.std.proofs.lemmas.Bool.{cases_eq, eq-eqb, ne_eqb, cond-true, cond-false, and_parts, and_cases, leb-true, leb-false}
use Rattle.cycle_theory.specs.Nets.{at}
use Rattle.cycle_theory.specs.Method.{tabulate}
use Rattle.cycle_theory.specs.Walk.{most, small, add_at}
use Rattle.cycle_theory.proofs.Rows.{split, at_past, at_tabulate, length_tabulate, equal_rows}
use Rattle.cycle_theory.proofs.WalkingTests.{small_from, small_not}
use Rattle.cycle_theory.proofs.WalkingSums.{length_add_at, at_add_at_same, at_add_at_other, at_times}
use Rattle.certificate.specs.declared.certificate.Share.{Share}
use Rattle.certificate.specs.Shares.{share}
use Rattle.certificate.specs.Extending.{share_of, times, all_small}

-- the rows that shares are in
abbrev pub rows_of : List Share → List ℕ
rows_of shares = map (λ s. s.row) shares

-- each row stands behind those before it
abbrev pub Rising : List ℕ → Type 0
Rising rs = (i h : ℕ) → i < h → h < length rs → at rs i < at rs h

-- all rows stand before k
abbrev pub Before : ℕ → List ℕ → Type 0
Before k rs = (h : ℕ) → h < length rs → at rs h < k

at_last : (rs : List ℕ) (k : ℕ) → at (rs ++ k ∷ []) (length rs) ≡ k
at_last [] k = refl
at_last (r ∷ rs) k = at_last rs k

pub before_last : (k : ℕ) (rs : List ℕ) → Before k rs → Before (k + 1) (rs ++ k ∷ [])
before_last k rs b h l =
    let n = length_push rs k in
    elim (split (length rs) h) [
      | inl ge ↦ let e : h ≡ length rs = omega (arith, n, l, ge) in let v = ap (at (rs ++ k ∷ [])) e ∙ at_last rs k in omega (arith, v)
      | inr lt ↦ let v = get_or_append_left rs (k ∷ []) 0 h lt in let q = b h lt in omega (arith, v, q)
    ]

pub rising_last : (k : ℕ) (rs : List ℕ) → Before k rs → Rising rs → Rising (rs ++ k ∷ [])
rising_last k rs b r i h lt l =
    let n = length_push rs k in
    let vi = get_or_append_left rs (k ∷ []) 0 i (omega (arith, n, l, lt)) in
    elim (split (length rs) h) [
      | inl ge ↦
          let e : h ≡ length rs = omega (arith, n, l, ge) in
          let v = ap (at (rs ++ k ∷ [])) e ∙ at_last rs k in
          let q = b i (omega (arith, n, l, lt)) in
          omega (arith, v, vi, q)
      | inr less ↦ let v = get_or_append_left rs (k ∷ []) 0 h less in let q = r i h lt less in omega (arith, v, vi, q)
    ]

-- the rows and the coefficients of a row more
rows_times : (p : ℕ) (shares : List Share) → rows_of (times p shares) ≡ rows_of shares
rows_times p [] = refl
rows_times p (s ∷ shares) = ap (λ rs. s.row ∷ rs) (rows_times p shares)

rows_push : (k s : ℕ) (shares : List Share) → rows_of (shares ++ share_of k s ∷ []) ≡ rows_of shares ++ k ∷ []
rows_push k s [] = refl
rows_push k s (r ∷ shares) = ap (λ rs. r.row ∷ rs) (rows_push k s shares)

pub rows_more : (p k s : ℕ) (shares : List Share) → rows_of (times p shares ++ share_of k s ∷ []) ≡ rows_of shares ++ k ∷ []
rows_more p k s shares = rows_push k s (times p shares) ∙ ap (λ rs. rs ++ k ∷ []) (rows_times p shares)

share_times : (p : ℕ) (shares : List Share) (i : ℕ) → share (times p shares) i ≡ p * share shares i
share_times p [] i = omega arith
share_times p (s ∷ shares) i = elim (eqb s.row i) as (λ b. cond b (p * s.coefficient) (share (times p shares) i) ≡ p * cond b s.coefficient (share shares i)) [
  | true ↦ refl
  | false ↦ share_times p shares i
]

share_other : (shares : List Share) (k s i : ℕ) → (i ≡ k → ⊥) → share (shares ++ share_of k s ∷ []) i ≡ share shares i
share_other [] k s i ne = cond-false (eqb k i) s 0 (ne_eqb k i (λ e. ne (sym e)))
share_other (r ∷ shares) k s i ne = ap (λ (m : ℕ). cond (eqb r.row i) r.coefficient m) (share_other shares k s i ne)

share_new : (shares : List Share) (k s : ℕ) → Before k (rows_of shares) → share (shares ++ share_of k s ∷ []) k ≡ s
share_new [] k s b = cond-true (eqb k k) s 0 (eq-eqb k k refl)
share_new (r ∷ shares) k s b =
    cond-false (eqb r.row k) r.coefficient (share (shares ++ share_of k s ∷ []) k) (ne_eqb r.row k (λ e. let q = b 0 (omega arith) in omega (arith, q, e)))
    ∙ share_new shares k s (λ h q. b (suc h) (omega arith))

no_share_yet : (k : ℕ) (shares : List Share) → Before k (rows_of shares) → share shares k ≡ 0
no_share_yet k [] b = refl
no_share_yet k (r ∷ shares) b =
    cond-false (eqb r.row k) r.coefficient (share shares k) (ne_eqb r.row k (λ e. let q = b 0 (omega arith) in omega (arith, q, e)))
    ∙ no_share_yet k shares (λ h q. b (suc h) (omega arith))

-- every coefficient told is one of those held
share_low : (shares : List Share) (i : ℕ) → all_small shares ≡ true → share shares i ≤ most
share_low [] i t = omega arith
share_low (s ∷ shares) i t =
    let both = and_parts _ _ t in
    elim (eqb s.row i) as (λ b. cond b s.coefficient (share shares i) ≤ most) [
      | true ↦ leb-true s.coefficient most both.0
      | false ↦ share_low shares i both.1
    ]

-- and every one held is told of its row
large_share : (shares : List Share) → Rising (rows_of shares) → all_small shares ≡ false →
    (i : ℕ) × (i < length (rows_of shares)) × (most < share shares (at (rows_of shares) i))
large_share [] r f = absurd (cc)
large_share (s ∷ shares) r f = elim (and_cases _ _ f) [
  | inl a ↦ (
    0,
    omega arith,
    subst (λ (m : ℕ). most < m) (sym (cond-true (eqb s.row s.row) s.coefficient (share shares s.row) (eq-eqb s.row s.row refl))) (leb-false s.coefficient most a),
  )
  | inr q ↦
      let t = large_share shares (λ i h lt l. r (suc i) (suc h) (omega arith) (omega arith)) q in
      let k : ℕ = at (rows_of shares) t.0 in
      let inside = t.1 in
      let g = r 0 (suc t.0) (omega arith) (omega (arith, inside)) in (
        suc t.0,
        omega (arith, inside),
        subst (λ (m : ℕ). most < m) (sym (cond-false (eqb s.row k) s.coefficient (share shares k) (ne_eqb s.row k (λ e. omega (arith, g, e))))) t.2,
      )
]

module _ (m k s p : ℕ) (shares : List Share) (here : k < m) (b : Before k (rows_of shares)) where
  abbrev told : List ℕ
  told = tabulate m (share shares)

  abbrev raised : List ℕ
  raised = add_at k s (map (λ c. p * c) told)

  abbrev more : List Share
  more = times p shares ++ share_of k s ∷ []

  length_scaled : length (map (λ c. p * c) told) ≡ m
  length_scaled = length-map told (λ c. p * c) ∙ length_tabulate m (share shares)

  pub length_raised : length raised ≡ m
  length_raised = length_add_at k s (map (λ c. p * c) told) ∙ length_scaled

  at_scaled : (i : ℕ) → i < m → at (map (λ c. p * c) told) i ≡ p * share shares i
  at_scaled i h = at_times p told i ∙ ap (λ (c : ℕ). p * c) (at_tabulate m (share shares) i h)

  at_raised_here : at raised k ≡ s
  at_raised_here =
      let z = no_share_yet k shares b in
      let e = at_add_at_same k s (map (λ c. p * c) told) (let n = length_scaled in omega (arith, n, here)) in
      let q = at_scaled k here in
      omega (arith, e, q, ap (λ (c : ℕ). p * c) z)

  at_raised_other : (i : ℕ) → i < m → (i ≡ k → ⊥) → at raised i ≡ share (times p shares) i
  at_raised_other i h ne = at_add_at_other k s (map (λ c. p * c) told) i ne ∙ at_scaled i h ∙ sym (share_times p shares i)

  before_times : Before k (rows_of (times p shares))
  before_times = subst (Before k) (sym (rows_times p shares)) b

  at_raised : (i : ℕ) → i < m → at raised i ≡ share more i
  at_raised i h = elim (cases_eq i k) [
    | inl e ↦ ap (at raised) e ∙ at_raised_here ∙ sym (share_new (times p shares) k s before_times) ∙ ap (share more) (sym e)
    | inr ne ↦ at_raised_other i h ne ∙ sym (share_other (times p shares) k s i ne)
  ]

  -- the walk's coefficients after the round are those told after it
  pub coefficients_raised : tabulate m (share more) ≡ raised
  coefficients_raised =
      let n : length (tabulate m (share more)) ≡ m = length_tabulate m (share more) in
      equal_rows (tabulate m (share more)) raised (n ∙ sym length_raised) (λ i. elim (split m i) [
        | inl h ↦ at_past (tabulate m (share more)) i (omega (arith, n, h)) ∙ sym (at_past raised i (let q = length_raised in omega (arith, q, h)))
        | inr h ↦ at_tabulate m (share more) i h ∙ sym (at_raised i h)
      ])

  -- they are within the limit
  pub raised_small : s ≤ most → all_small (times p shares) ≡ true → small raised ≡ true
  raised_small low t = small_from raised (λ i h.
      let l : i < m = let q = length_raised in omega (arith, q, h) in
      elim (cases_eq i k) [
        | inl e ↦ subst (λ (c : ℕ). c ≤ most) (sym (ap (at raised) e ∙ at_raised_here)) low
        | inr ne ↦ subst (λ (c : ℕ). c ≤ most) (sym (at_raised_other i l ne)) (share_low (times p shares) i t)
      ])

  -- or one of them is not
  pub raised_top_large : most < s → small raised ≡ false
  raised_top_large h = small_not raised k (subst (λ (c : ℕ). most < c) (sym at_raised_here) h)

  pub raised_large : Rising (rows_of shares) → all_small (times p shares) ≡ false → small raised ≡ false
  raised_large rising f =
      let t = large_share (times p shares) (subst Rising (sym (rows_times p shares)) rising) f in
      let r : ℕ = at (rows_of (times p shares)) t.0 in
      let lt : r < k = before_times t.0 t.1 in
      small_not raised r (subst (λ (c : ℕ). most < c) (sym (at_raised_other r (omega (arith, lt, here)) (λ e. omega (arith, lt, e)))) t.2)

-- at the begin all are 0
pub no_coefficients : (m : ℕ) → tabulate m (share []) ≡ replicate m 0
no_coefficients m =
    let n : length (tabulate m (share [])) ≡ m = length_tabulate m (share []) in
    let l : length (replicate m 0) ≡ m = length-replicate {A = ℕ} m 0 in
    equal_rows (tabulate m (share [])) (replicate m 0) (n ∙ sym l) (λ i. elim (split m i) [
      | inl h ↦ at_past (tabulate m (share [])) i (omega (arith, n, h)) ∙ sym (at_past (replicate m 0) i (omega (arith, l, h)))
      | inr h ↦ at_tabulate m (share []) i h ∙ sym (get_or-replicate m i 0 0 h)
    ])
