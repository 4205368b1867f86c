-- Cleaning rows that reach the cycles leaves rows that cover them (cleaned_cover).
use Rattle.std.proofs.Common.{◌≡◌, ℕ, zero, suc, ◌<◌, true, false, not, eqb, ◌⊎◌, List, [], ◌∷◌, sym, refl, ◌∙◌, subst, inl, inr, not-suc-le-zero, arith}
use Rattle.std.proofs.lemmas.Bool.{false≢true, eq-eqb, and_parts, and_from, and_cases, not-false, cases_Bool}
use Rattle.cycle_theory.specs.Nets.{Counts, at, Mem, Within}
use Rattle.cycle_theory.specs.Method.{keep, every, same, stays, once, cleaned}
use Rattle.cycle_theory.specs.Flows.{Flow, Cover, Reaches, Kept}
use Rattle.cycle_theory.proofs.Rows.{equal?}
use Rattle.cycle_theory.proofs.Members.{mem_keep_if, keep_if_first, keep_if_rest, mem_keep, keep_mem, every_mem, mem_every}
use Rattle.cycle_theory.proofs.Supports.{within_true, true_within, within?, steps_in_use, no_more_steps}
use Rattle.cycle_theory.proofs.Minimals.{equal_or_smaller}

-- the test `same` says that rows are equal
pub same_true : (x y : Counts) → same x y ≡ true → x ≡ y
same_true [] [] t = refl
same_true (a ∷ x) (b ∷ y) t = grind (arith, same_true x y (and_parts (eqb a b) (same x y) t).1)
same_true x y t = absurd (false≢true t)

same_self : (x : Counts) → same x x ≡ true
same_self [] = refl
same_self (a ∷ x) = and_from (eqb a a) (same x x) (eq-eqb a a refl) (same_self x)

pub true_same : (x y : Counts) → x ≡ y → same x y ≡ true
true_same x y e = grind (arith, same_self)

-- the test `stays` says Kept, and is true where it holds
pub stays_kept : (L : List Counts) (z : Counts) → stays L z ≡ true → Kept L z
stays_kept L z t w m b = grind (arith, every_mem, same_true, true_within)

pub kept_stays : (L : List Counts) (z : Counts) → Kept L z → stays L z ≡ true
kept_stays L z k = grind (arith, mem_every, true_same, within_true)

-- taking equal rows once leaves the same rows
mem_once : (L : List Counts) (z : Counts) → Mem z (once L) → Mem z L
mem_once [] z m = m
mem_once (x ∷ L) z m = elim (mem_keep_if z (every (λ y. not (same x y)) L) x (once L) m) [ inl t ↦ inl t.1 | inr q ↦ inr (mem_once L z q) ]

-- a row that is not kept stands once more further on
further : (L : List Counts) (x : Counts) → every (λ y. not (same x y)) L ≡ false → Mem x L
further [] x f = absurd (false≢true (sym f))
further (y ∷ L) x f = elim (and_cases (not (same x y)) (every (λ v. not (same x v)) L) f) [
  | inl g ↦ inl (same_true x y (not-false (same x y) g))
  | inr g ↦ inr (further L x g)
]

once_mem : (L : List Counts) (z : Counts) → Mem z L → Mem z (once L)
once_mem [] z m = m
once_mem (x ∷ L) z (inl e) = elim (cases_Bool (every (λ y. not (same x y)) L)) [
  | inl t ↦ keep_if_first z (every (λ y. not (same x y)) L) x (once L) t e
  | inr f ↦ keep_if_rest z (every (λ y. not (same x y)) L) x (once L) (once_mem L z (subst (λ (v : Counts). Mem v L) (sym e) (further L x f)))
]
once_mem (x ∷ L) z (inr m) = grind (arith, once_mem L z m)

-- cleaned rows are those that are kept
pub mem_cleaned : (L : List Counts) (z : Counts) → Mem z (cleaned L) → Mem z L × Kept L z
mem_cleaned L z m =
    let t : Mem z L × (stays L z ≡ true) = mem_keep (stays L) z L (mem_once (keep (stays L) L) z m) in
    (t.0, stays_kept L z t.1)

pub cleaned_mem : (L : List Counts) (z : Counts) → Mem z L → Kept L z → Mem z (cleaned L)
cleaned_mem L z m k = grind (arith, once_mem, keep_mem, kept_stays)

-- a row is kept, or a different one stands within it
pub kept? : (L : List Counts) (z : Counts) → Kept L z ⊎ ((w : Counts) × (Mem w L) × (Within w z) × (w ≡ z → ⊥))
kept? [] z = inl (λ w m b. absurd m)
kept? (v ∷ L) z = elim (kept? L z) [
  | inr t ↦ inr (t.0, inr t.1, t.2, t.3)
  | inl k ↦ elim (within? v z) [
    | inr f ↦ inl (λ w m b. elim m [ inl e ↦ absurd (f (subst (λ (x : Counts). Within x z) e b)) | inr m' ↦ k w m' b ])
    | inl bv ↦ elim (equal? v z) [
      | yes e ↦ inl (λ w m b. elim m [ inl e' ↦ e' ∙ e | inr m' ↦ k w m' b ])
      | no f ↦ inr (v, inl refl, bv, f)
    ]
  ]
]

-- within each row stands one that is kept: what stands within uses fewer steps, so this comes to an end after k rounds
pub kept_within :
    (n : ℕ) (A : List Flow) (L : List Counts) → Reaches n A L → (k : ℕ) (z : Counts) → Mem z L → steps_in_use n (at z) < k →
    (v : Counts) × (Mem v L) × (Kept L v) × Within v z
kept_within n A L c zero z m h = absurd (not-suc-le-zero h)
kept_within n A L c (suc k) z m h = elim (kept? L z) [
  | inl kz ↦ (z, m, kz, λ j q. q)
  | inr t ↦ elim (equal_or_smaller n A t.0 z (c.good t.0 t.1) (c.good z m) t.2) [
    | inl e ↦ absurd (t.3 e)
    | inr s ↦
        let g : (w : Counts) × (Mem w L) × Within w s.row = c.covers s.row s.long s.cycle s.nonzero in
        let r : (v : Counts) × (Mem v L) × (Kept L v) × Within v g.0 = kept_within n A L c k g.0 g.1 (omega (arith, s.smaller, no_more_steps n (at g.0) (at s.row) g.2)) in
        (r.0, r.1, r.2, λ j q. s.within j (g.2 j (r.3 j q)))
  ]
]

-- stated for any list S with the rows that are kept, in whatever order
pub cleaned_cover :
    (n : ℕ) (A : List Flow) (L S : List Counts) → Reaches n A L →
    ((z : Counts) → Mem z S → Mem z L × Kept L z) → ((z : Counts) → Mem z L → Kept L z → Mem z S) → Cover n A S
cleaned_cover n A L S c out in' = record {
  good = λ w m. c.good w (out w m).0;
  apart = λ w v mw mv b. (out v mv).1 w (out w mw).0 b;
  covers = λ x lx cx nx.
      let g : (w : Counts) × (Mem w L) × Within w x = c.covers x lx cx nx in
      let r : (v : Counts) × (Mem v L) × (Kept L v) × Within v g.0 = kept_within n A L c (suc (steps_in_use n (at g.0))) g.0 g.1 (omega arith) in
      (r.0, in' r.0 r.1 r.2, λ j q. g.2 j (r.3 j q));
}
