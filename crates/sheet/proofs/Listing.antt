-- Rows of 24 counts in a ledger, and rows of n counts in a closed list. The main statement is `narrowed`. Assumes nothing.
use Rattle.std.proofs.Common.{◌≡◌, ℕ, ◌-◌, ◌↔◌, List, [], ◌∷◌, map, length, take, replicate, ℤ, sym, refl, ap, ◌∙◌, inl, inr}
use Rattle.std.proofs.Math.Seq.{take-append_seam}
use Rattle.cycle_theory.specs.Nets.{Mem, Cycle}
use Rattle.cycle_theory.specs.Method.{tss}
use Rattle.cycle_theory.proofs.Theorems.{tss_minimal, tss_same}
use Rattle.ledger.specs.declared.Ledger.{Ghosts as Kind}
use Rattle.method.specs.Stepping.{wide, written}
use Rattle.sheet.specs.declared.sheets.ClosedSheet.{ClosedSheet}
use Rattle.sheet.specs.Sheets.{places_in, closed_list}

narrowed_rows : (n : ℕ) (R : List (List ℕ)) → ((x : List ℕ) → Mem x R → length x ≡ n) → map (take n) (written R) ≡ R
narrowed_rows n [] h = refl
narrowed_rows n (x ∷ R) h =
    let e : take n (wide x) ≡ x = ap (λ (i : ℕ). take i (wide x)) (sym (h x (inl refl))) ∙ take-append_seam x (replicate (24 - length x) 0) in
    let r : map (take n) (written R) ≡ R = narrowed_rows n R (λ y i. h y (inr i)) in cc

-- the method's rows of n steps, written 24 counts wide and read as n counts, are the method's rows
pub narrowed : (n : ℕ) (A : List (List ℤ)) → map (take n) (written (tss n A)) ≡ tss n A
narrowed n A = narrowed_rows n (tss n A) (λ x i. (((tss_minimal n A).exactly x).0 i).cycle.long)

-- a closed sheet lists the method's rows of its places
pub listed_rows : {L : Type 0} {k : Kind L} (c : ClosedSheet L k) → closed_list c ≡ tss c.steps.n (places_in c)
listed_rows c = ap (λ (R : List (List ℕ)). map (take c.steps.n) R) c.held.rows ∙ narrowed c.steps.n (places_in c)

-- the rows held are the same exactly when the cycles are
pub held_same : (n : ℕ) (A B : List (List ℤ)) → (written (tss n A) ≡ written (tss n B)) ↔ ((x : List ℕ) → Cycle n A x ↔ Cycle n B x)
held_same n A B = (
  λ e. (tss_same n A B).0 (sym (narrowed n A) ∙ ap (λ (R : List (List ℕ)). map (take n) R) e ∙ narrowed n B),
  λ h. ap (λ (R : List (List ℕ)). written R) ((tss_same n A B).1 h),
)
