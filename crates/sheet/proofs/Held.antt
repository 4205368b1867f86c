-- What the ledgers of a sheet tell. Assumes nothing.
use Rattle.std.proofs.Common.{◌≡◌, ℕ, Bool, Decides, List, [], ◌∷◌, ◌++◌, length, ℤ, Result, ap, ◌∙◌}
use Rattle.std.proofs.Props.{props}
use Rattle.std.proofs.Math.Logic.{∥∥₁_elim}
use Rattle.std.proofs.lemmas.List.{length-map}
use Rattle.ledger.specs.declared.Ledger.{Ghosts as Kind}
use Rattle.cycle_theory.specs.Method.{tss}
use Rattle.method.specs.Stepping.{wide, step_answer, spare_after, Made, Next}
use Rattle.method.specs.declared.fault.StepFault.{StepFault}
use Rattle.sheet.specs.declared.sheets.ClosedSheet.{ClosedSheet}
use Rattle.sheet.specs.declared.sheets.OpenSheet.{OpenSheet}
use Rattle.sheet.specs.Sheets.{steps_of, places_of, places_in}

-- the number of rows of a closed sheet
pub count_held : {L : Type 0} {k : Kind L} (c : ClosedSheet L k) (count : ℕ) → (k.orderly c.rows → count ≡ length (k.rows c.rows)) → count ≡ length (tss c.steps.n (places_in c))
count_held c count told = ∥∥₁_elim c.held.order (hlevel props) told ∙ ap length c.held.rows ∙ length-map (tss c.steps.n (places_in c)) wide

-- whether two closed sheets hold the same rows
pub rows_told :
    {L M : Type 0} {j : Kind L} {k : Kind M} (a : ClosedSheet L j) (b : ClosedSheet M k) (t : Bool) →
    (j.orderly a.rows → k.orderly b.rows → Decides t (j.rows a.rows ≡ k.rows b.rows)) → Decides t (j.rows a.rows ≡ k.rows b.rows)
rows_told a b t told = ∥∥₁_elim a.held.order (hlevel props) (λ o. ∥∥₁_elim b.held.order (hlevel props) (λ q. told o q))

-- the rows of an open sheet with one place more, made in its spare ledger
module _ {L : Type 0} {k : Kind L} (s : OpenSheet L k) (p : List ℤ) (after : L) (answer : Result (Unit {0}) StepFault) (next : Next k p s.current s.spare answer after) where
  -- where both are in order by some proof
  pub made : k.orderly s.current → k.orderly s.spare → Made k (tss (steps_of s) (places_of s ++ p ∷ [])) answer after
  made o q = next (steps_of s) (places_of s) s.steps.few.1 o s.held.rows q s.spare_empty

  pub made_order : ∥ k.orderly after ∥₁
  made_order = ∥∥₁_elim s.held.order (hlevel props) (λ o. ∥∥₁_elim s.spare_order (hlevel props) (λ q. ∣ (made o q).order ∣₁))

  pub made_answer : answer ≡ step_answer k (tss (steps_of s) (places_of s ++ p ∷ []))
  made_answer = ∥∥₁_elim s.held.order (hlevel props) (λ o. ∥∥₁_elim s.spare_order (hlevel props) (λ q. (made o q).answered))

  pub made_rows : k.rows after ≡ spare_after answer (tss (steps_of s) (places_of s ++ p ∷ []))
  made_rows = ∥∥₁_elim s.held.order (hlevel props) (λ o. ∥∥₁_elim s.spare_order (hlevel props) (λ q. (made o q).rows))
