-- From what stands at the end to the answer in the words of the method's rows.
use Rattle.std.proofs.Common.{◌≡◌, ℕ, zero, suc, ◌-◌, ◌<◌, ◌≤◌, Bool, true, false, cond, ltb, List, [], ◌∷◌, ◌++◌, map, length, ℤ, is_err, Ok, Err, sum_by, Result, sym, refl, ap, ◌∙◌, subst, inl, inr, ⊎_elim, arith}
use Rattle.std.proofs.lemmas.Bool.{cases_Bool, cases_lt, ltb-false, lt-ltb, le-ltb, or_parts, or_from, or_left, or_right, true≢false, false≢true}
use Rattle.cycle_theory.specs.Nets.{Counts, at, Mem, Ascending}
use Rattle.cycle_theory.specs.Method.{step, units, tss}
use Rattle.cycle_theory.specs.Flows.{flow, Cover}
use Rattle.cycle_theory.proofs.Rows.{at_past}
use Rattle.cycle_theory.proofs.Members.{mem_map, map_mem}
use Rattle.cycle_theory.proofs.Nets.{tss_cover, after_last}
use Rattle.ledger.specs.declared.Ledger.{Ghosts as Kind}
use Rattle.ledger.specs.declared.fault.LedgerFault.TheVariants.{Full}
use Rattle.ledger.specs.Rows.{Small}
use Rattle.method.specs.declared.fault.StepFault.{StepFault}
use Rattle.method.specs.declared.fault.StepFault.TheVariants.{RowTooLarge, Ledger}
use Rattle.method.specs.Effects.{some}
use Rattle.method.specs.Stepping.{wide, written, some_large, overfull, step_answer, Made}
use Rattle.method.specs.Building.{Large, Ended, Built}
use Rattle.method.proofs.Widening.{at_wide, caps, cover_wide, ascending_wide, step_wide}

small_none : (x : Counts) → ((j : ℕ) → at x j ≤ 1048575) → some (ltb 1048575) x ≡ false
small_none [] small = refl
small_none (c ∷ x) small = or_from (ltb 1048575 c) (some (ltb 1048575) x) (le-ltb 1048575 c (small 0)) (small_none x (λ j. small (suc j)))

none_small : (x : Counts) → some (ltb 1048575) x ≡ false → (j : ℕ) → at x j ≤ 1048575
none_small [] none j = omega arith
none_small (c ∷ x) none zero = ltb-false 1048575 c (or_parts (ltb 1048575 c) (some (ltb 1048575) x) none).0
none_small (c ∷ x) none (suc j) = none_small x (or_parts (ltb 1048575 c) (some (ltb 1048575) x) none).1 j

none_large : (rows : List Counts) → ((x : Counts) → Mem x rows → some (ltb 1048575) x ≡ false) → some_large rows ≡ false
none_large [] none = refl
none_large (x ∷ rows) none = or_from (some (ltb 1048575) x) (some_large rows) (none x (inl refl)) (none_large rows (λ y m. none y (inr m)))

one_large : (rows : List Counts) (x : Counts) → Mem x rows → some (ltb 1048575) x ≡ true → some_large rows ≡ true
one_large [] x m large = absurd m
one_large (y ∷ rows) x (inl e) large = or_left (some (ltb 1048575) y) (some_large rows) (subst (λ (z : Counts). some (ltb 1048575) z ≡ true) e large)
one_large (y ∷ rows) x (inr m) large = or_right (some (ltb 1048575) y) (some_large rows) (one_large rows x m large)

-- the rows of a net, in a ledger of kind `kind`
module _ (n : ℕ) (few : n ≤ 24) (places : List (List ℤ)) where
  pub rows_short : (w : Counts) → Mem w (tss n places) → length w ≤ 24
  rows_short w m = let l = ((tss_cover n places).0.good w m).long in omega (arith, l, few)

  next_is : (p : List ℤ) → step p (written (tss n places)) ≡ written (tss n (places ++ p ∷ []))
  next_is p = step_wide n few (map flow places) (tss n places) (tss_cover n places).0 p ∙ ap written (sym (after_last (units n) places p))

  -- one place more
  pub ended_wide : {L : Type 0} (kind : Kind L) (p : List ℤ) (current spare spare' : L) (r : Result (Unit {0}) StepFault) → Built kind p current spare spare' r →
      kind.orderly current → kind.rows current ≡ written (tss n places) → kind.orderly spare → kind.rows spare ≡ [] →
      Ended kind (written (tss n (places ++ p ∷ []))) spare' r
  ended_wide kind p current spare spare' r built oc is os empty =
      let A = map flow places in
      let cover = tss_cover n places in
      subst (λ (l : List Counts). Ended kind l spare' r) (ap (step p) is ∙ next_is p)
      (built (A ++ caps n (24 - n)) oc (subst (Cover 24 (A ++ caps n (24 - n))) (sym is) (cover_wide n few A (tss n places) cover.0))
      (subst Ascending (sym is) (ascending_wide n (tss n places) (λ w m. (cover.0.good w m).long) cover.1)) os empty)

module _ {L : Type 0} (kind : Kind L) (new : List Counts) (short : (w : Counts) → Mem w new → length w ≤ 24) where
  all_small : ((w : Counts) → Mem w (written new) → Small w) → some_large new ≡ false
  all_small small = none_large new (λ x m. small_none x (λ j. ⊎_elim
      (λ (h : j < 24). subst (λ (c : ℕ). c ≤ 1048575) (at_wide x j) (small (wide x) (map_mem wide x new m) j h))
      (λ (h : 24 ≤ j). let z = at_past x j (let s = short x m in omega (arith, s, h)) in omega (arith, z))
      (cases_lt j 24)))

  some_row_large : Large (written new) → some_large new ≡ true
  some_row_large (w, m, large) =
      let r = mem_map wide w new m in
      ⊎_elim
      (λ (t : some (ltb 1048575) r.0 ≡ true). one_large new r.0 r.1 t)
      (λ (f : some (ltb 1048575) r.0 ≡ false).
      absurd (large (λ j h. subst (λ (x : Counts). at x j ≤ 1048575) (sym r.2) (subst (λ (c : ℕ). c ≤ 1048575) (sym (at_wide r.0 j)) (none_small r.0 f j)))))
      (cases_Bool (some (ltb 1048575) r.0))

  answer_large : some_large new ≡ true → Err RowTooLarge ≡ step_answer kind new
  answer_large t = sym (ap (λ (b : Bool). cond b (Err RowTooLarge) (cond (overfull kind new) (Err (Ledger Full)) (Ok tt))) t)

  answer_rest : some_large new ≡ false → cond (overfull kind new) (Err (Ledger Full)) (Ok tt) ≡ step_answer kind new
  answer_rest f = sym (ap (λ (b : Bool). cond b (Err RowTooLarge) (cond (overfull kind new) (Err (Ledger Full)) (Ok tt))) f)

  answer_is : (spare : L) → (kind.orderly spare → sum_by kind.charge (kind.rows spare) ≤ kind.TOTAL) → (r : Result (Unit {0}) StepFault) → Ended kind (written new) spare r → r ≡ step_answer kind new
  answer_is spare fits (Ok tt) (order, small, rows) =
      let within : sum_by kind.charge (written new) ≤ kind.TOTAL = subst (λ (l : List Counts). sum_by kind.charge l ≤ kind.TOTAL) rows (fits order) in
      sym (ap (λ (b : Bool). cond b (Err (Ledger Full)) (Ok tt)) (le-ltb kind.TOTAL (sum_by kind.charge (written new)) within)) ∙ answer_rest (all_small small)
  answer_is spare fits (Err RowTooLarge) large = answer_large (some_row_large large)
  answer_is spare fits (Err (Ledger e)) (full, small, above) =
      ap (λ f. Err (Ledger f)) full
      ∙ sym (ap (λ (b : Bool). cond b (Err (Ledger Full)) (Ok tt)) (lt-ltb kind.TOTAL (sum_by kind.charge (written new)) above))
      ∙ answer_rest (all_small small)

  module _ (spare : L) (fits : kind.orderly spare → sum_by kind.charge (kind.rows spare) ≤ kind.TOTAL) where
    -- accepted
    pub made_kept : (r : Result (Unit {0}) StepFault) → is_err r ≡ false → Ended kind (written new) spare r → Made kind new r spare
    made_kept (Ok _) ok ended = record { order = ended.0; answered = answer_is spare fits (Ok tt) ended; rows = ended.2 }
    made_kept (Err e) ok ended = absurd (true≢false ok)

    -- refused, and the ledger emptied
    pub made_emptied : (spare' : L) → kind.orderly spare' → kind.rows spare' ≡ [] → (r : Result (Unit {0}) StepFault) → is_err r ≡ true → Ended kind (written new) spare r → Made kind new r spare'
    made_emptied spare' order empty (Ok _) refused ended = absurd (false≢true refused)
    made_emptied spare' order empty (Err e) refused ended = record { order = order; answered = answer_is spare fits (Err e) ended; rows = empty }
