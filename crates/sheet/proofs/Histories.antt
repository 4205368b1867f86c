-- Every run keeps the promise. The main statements are `one_run` and `two_runs`. Assumes nothing.
use Rattle.std.proofs.Common.{◌≡◌, ℕ, ◌↔◌, List, [], ◌∷◌, ◌++◌, length, ℤ, sym, ap, ◌∙◌, subst, arith}
use Rattle.ledger.specs.declared.Ledger.{Ghosts as Kind}
use Rattle.cycle_theory.specs.Nets.{Cycle}
use Rattle.cycle_theory.specs.Method.{tss}
use Rattle.cycle_theory.specs.Theorems.{SumOf, AllMinimal}
use Rattle.cycle_theory.proofs.Theorems.{tss_minimal, tss_sums}
use Rattle.method.specs.Stepping.{written}
use Rattle.sheet.specs.declared.sheets.OpenSheet.{OpenSheet}
use Rattle.sheet.specs.declared.sheets.ClosedSheet.{ClosedSheet}
use Rattle.sheet.specs.declared.comparing.Comparison.{Comparison}
use Rattle.sheet.specs.declared.comparing.Comparison.TheVariants.{Different}
use Rattle.sheet.specs.Verdict.{causes, first_of, verdict, places_after}
use Rattle.sheet.specs.Held.{Holds}
use Rattle.sheet.specs.Sheets.{steps_of, places_of, places_in, Offered, Closed, closed_list, Compared}
use Rattle.sheet.specs.Runs.{offered, told, History, accepted, CameBy, ClosedBy, Throughout, AnswerRight, CountRight, OneRun, TwoRuns}
use Rattle.sheet.proofs.Causes.{verdict_is}
use Rattle.sheet.proofs.Listing.{listed_rows, held_same}

-- what is known of a sheet that came by a history
pub record Known {L : Type 0} {k : Kind L} (n : ℕ) (h : History) (s : OpenSheet L k) : Type 0 where
  pub steps : steps_of s ≡ n
  pub places : places_of s ≡ accepted h
  pub counts : Throughout (CountRight n) h
  pub answers : Throughout (AnswerRight k n) h

pub known : {L : Type 0} {k : Kind L} (n : ℕ) (h : History) (s : OpenSheet L k) → CameBy n h s → Known n h s
known n [] s o = record { steps = o.steps; places = o.places; counts = tt; answers = tt }
known {L} {k} n (offered p answer ∷ h) s t =
    let b : OpenSheet L k = t.0 in
    let w : Known n h b = known n h b t.1 in
    let o : Offered b p answer s = t.2 in
    let new : List (List ℕ) = tss n (accepted h ++ p ∷ []) in
    let right : verdict k (steps_of b) (places_of b) p ≡ first_of (causes k n (accepted h) p new) =
    ap (λ (m : ℕ). verdict k m (places_of b) p) w.steps ∙ ap (λ (A : List (List ℤ)). verdict k n A p) w.places ∙ verdict_is k n (accepted h) p in
    record {
      steps = o.steps ∙ w.steps;
      places = o.places ∙ ap (λ (A : List (List ℤ)). places_after A p answer) w.places;
      counts = (tt, w.counts);
      answers = ((new, tss_minimal n (accepted h ++ p ∷ []), o.answered ∙ right), w.answers);
    }
known n (told count ∷ h) s t =
    let w : Known n h s = known n h s t.0 in
    let right : length (tss (steps_of s) (places_of s)) ≡ length (tss n (accepted h)) =
    ap (λ (m : ℕ). length (tss m (places_of s))) w.steps ∙ ap (λ (A : List (List ℤ)). length (tss n A)) w.places in
    record {
      steps = w.steps;
      places = w.places;
      counts = ((tss n (accepted h), tss_minimal n (accepted h), sym (t.1 ∙ right)), w.counts);
      answers = (tt, w.answers);
    }

-- the promise on one run
pub one_run : {L : Type 0} {k : Kind L} (n : ℕ) (h : History) (s : OpenSheet L k) (c : ClosedSheet L k) → CameBy n h s → Closed s c → OneRun n h c
one_run {L} {k} n h s c came cl =
    let w : Known n h s = known n h s came in
    let steps : c.steps.n ≡ n = cl.steps ∙ w.steps in
    let places : places_in c ≡ accepted h = cl.places ∙ w.places in
    let held : Holds k n (accepted h) c.rows =
    subst (λ (A : List (List ℤ)). Holds k n A c.rows) places (subst (λ (m : ℕ). Holds k m (places_in c) c.rows) steps c.held) in
    let list : closed_list c ≡ tss n (accepted h) =
    listed_rows c ∙ ap (λ (m : ℕ). tss m (places_in c)) steps ∙ ap (λ (A : List (List ℤ)). tss n A) places in
    record {
      steps = steps;
      places = places;
      held = held;
      list = list;
      minimal = subst (λ (R : List (List ℕ)). AllMinimal n (accepted h) R) (sym list) (tss_minimal n (accepted h));
      sums = λ x cy. subst (λ (R : List (List ℕ)). SumOf R x) (sym list) (tss_sums n (accepted h) x cy);
      counts = w.counts;
      answers = w.answers;
    }

-- two sheets that are not the same
pub differ : {L M : Type 0} {j : Kind L} {k : Kind M} (a : ClosedSheet L j) (b : ClosedSheet M k) → ((a.steps.n ≡ b.steps.n) × (j.rows a.rows ≡ k.rows b.rows) → ⊥) → Compared a b Different
differ a b h = (λ e. let z : ◌≡◌ {A = ℕ} 0 1 = cc in absurd (omega arith), λ e. absurd (h e))

-- the promise on two runs, where the answer is right
pub two_runs :
    {L M : Type 0} {j : Kind L} {k : Kind M} (m : ℕ) (g : History) (a : ClosedSheet L j) (n : ℕ) (h : History) (b : ClosedSheet M k) (answer : Comparison) →
    Compared a b answer → ClosedBy m g a → ClosedBy n h b → TwoRuns m g a n h b answer
two_runs {j = j} {k = k} m g a n h b answer is ca cb =
    let p : OneRun m g a = one_run m g ca.0 a ca.1 ca.2 in
    let q : OneRun n h b = one_run n h cb.0 b cb.1 cb.2 in
    record {
      first = p;
      second = q;
      same = (
        λ e.
            let s : m ≡ n = sym p.steps ∙ (is.0 e).0 ∙ q.steps in
            let rows : written (tss m (accepted g)) ≡ written (tss m (accepted h)) =
            sym p.held.rows ∙ (is.0 e).1 ∙ q.held.rows ∙ ap (λ (i : ℕ). written (tss i (accepted h))) (sym s) in
            (s, subst (λ (i : ℕ). (x : List ℕ) → Cycle m (accepted g) x ↔ Cycle i (accepted h) x) s ((held_same m (accepted g) (accepted h)).0 rows)),
        λ t.
            let cycles : (x : List ℕ) → Cycle m (accepted g) x ↔ Cycle m (accepted h) x =
            subst (λ (i : ℕ). (x : List ℕ) → Cycle m (accepted g) x ↔ Cycle i (accepted h) x) (sym t.0) t.1 in
            is.1 (
              p.steps ∙ t.0 ∙ sym q.steps,
              p.held.rows ∙ (held_same m (accepted g) (accepted h)).1 cycles ∙ ap (λ (i : ℕ). written (tss i (accepted h))) t.0 ∙ sym q.held.rows,
            ),
      );
    }
